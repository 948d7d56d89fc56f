-- The reason and the place of each fault for which a call on the ledger is refused.
use Rattle.refusal.specs.declared.Reason.TheVariants as reason
use Rattle.refusal.specs.declared.Refusal.{Refusal}
use Rattle.connecting.specs.Refusals.{placed, block_refusal}
use Rattle.ledger.specs.declared.fault.LedgerFault.{LedgerFault}
use Rattle.ledger.specs.declared.fault.LedgerFault.TheVariants as ledger

abbrev pub ledger_refusal : LedgerFault → Refusal
ledger_refusal ledger.Nothing = placed reason.Nothing 0 0
ledger_refusal ledger.Parameter = placed reason.Parameter 0 0
ledger_refusal ledger.NotEmpty = placed reason.NotEmpty 0 0
ledger_refusal ledger.Started = placed reason.Started 0 0
ledger_refusal ledger.NotStarted = placed reason.NotStarted 0 0
ledger_refusal (ledger.Block f) = block_refusal f
