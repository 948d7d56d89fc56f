-- The line of the printout for each answer of the ledger.
use Rattle.std.specs.Prelude.{Bool, true, false, Ok, Err, Result}
use Rattle.coins.specs.declared.coin.Lock.{Lock}
use Rattle.ledger.specs.declared.Balance.{Balance}
use Rattle.ledger.specs.declared.Connected.{Connected}
use Rattle.ledger.specs.declared.Disconnected.{Disconnected}
use Rattle.ledger.specs.declared.Outcome.{Outcome}
use Rattle.ledger.specs.declared.Outcome.TheVariants.{Clean, Unclean}
use Rattle.ledger.specs.declared.fault.LedgerFault.{LedgerFault}
use Rattle.ledger.specs.Refusals.{ledger_refusal}
use Rattle.printout.specs.declared.Line.{Line}
use Rattle.printout.specs.declared.Line.TheVariants as line

abbrev pub is_clean : Outcome → Bool
is_clean Clean = true
is_clean Unclean = false

-- the line of what a granted call gave, or the refusal
abbrev pub line_by : {X : Type 0} → (X → Line) → Result X LedgerFault → Line
line_by f (Ok x) = f x
line_by f (Err e) = line.Refused (ledger_refusal e)

abbrev pub start_line : Result (Unit {0}) LedgerFault → Line
start_line r = line_by (λ t. line.Start) r

abbrev pub connect_line : Result Connected LedgerFault → Line
connect_line r = line_by (λ d. line.Connect d.height d.made d.spent d.fees d.burned) r

abbrev pub disconnect_line : Result Disconnected LedgerFault → Line
disconnect_line r = line_by (λ d. line.Disconnect d.height (is_clean d.outcome)) r

abbrev pub balance_line : Lock → Result Balance LedgerFault → Line
balance_line k r = line_by (λ b. line.Balance k.kind k.argument b.coins b.value) r
