-- The reason and the place of each fault for which a block is refused.
use Rattle.std.specs.Prelude.{ℕ}
use Rattle.refusal.specs.declared.Reason.{Reason}
use Rattle.refusal.specs.declared.Reason.TheVariants as reason
use Rattle.refusal.specs.declared.Refusal.{Refusal}
use Rattle.refusal.specs.Placed as refusal
use Rattle.blockform.specs.Faults.{form_refusal}
use Rattle.coinsview.specs.Fault.{reason_of}
use Rattle.connecting.specs.declared.fault.InputFault.{InputFault}
use Rattle.connecting.specs.declared.fault.InputFault.TheVariants as input
use Rattle.connecting.specs.declared.fault.TransactionFault.{TransactionFault}
use Rattle.connecting.specs.declared.fault.TransactionFault.TheVariants as transaction
use Rattle.connecting.specs.declared.fault.BlockFault.{BlockFault}
use Rattle.connecting.specs.declared.fault.BlockFault.TheVariants as block

abbrev pub input_reason : InputFault → Reason
input_reason input.Missing = reason.Missing
input_reason input.Immature = reason.Immature
input_reason input.Shut = reason.Shut
input_reason (input.View f) = reason_of f

abbrev pub placed : Reason → ℕ → ℕ → Refusal
placed = refusal.placed

-- of the transaction at place t of its block
abbrev pub transaction_refusal : ℕ → TransactionFault → Refusal
transaction_refusal t transaction.Coinbase2 = placed reason.Coinbase2 t 0
transaction_refusal t transaction.CbData = placed reason.CbData t 0
transaction_refusal t transaction.NoInput = placed reason.NoInput t 0
transaction_refusal t transaction.NoOutput = placed reason.NoOutput t 0
transaction_refusal t (transaction.Money output) = placed reason.Money t output
transaction_refusal t transaction.Under = placed reason.Under t 0
transaction_refusal t (transaction.Null input) = placed reason.Null t input
transaction_refusal t (transaction.Item item f) = placed (input_reason f) t item

abbrev pub block_refusal : BlockFault → Refusal
block_refusal (block.Form f) = form_refusal f
block_refusal block.Parent = placed reason.Parent 0 0
block_refusal block.LastHeight = placed reason.LastHeight 0 0
block_refusal block.LogFull = placed reason.LogFull 0 0
block_refusal block.NoCoinbase = placed reason.NoCoinbase 0 0
block_refusal block.Claim = placed reason.Claim 0 0
block_refusal (block.Transaction t f) = transaction_refusal t f
