-- Which answers there are to a call, and which of them changed the ledger.
use Rattle.std.specs.Prelude.{ℕ, Bool, false, is_ok, Option, Result}
use Rattle.coins.specs.declared.coin.Coin.{Coin}
use Rattle.coins.specs.declared.outpoint.Outpoint.{Outpoint}
use Rattle.ledger.specs.declared.Tip.{Tip}
use Rattle.ledger.specs.declared.Connected.{Connected}
use Rattle.ledger.specs.declared.Disconnected.{Disconnected}
use Rattle.ledger.specs.declared.Balance.{Balance}
use Rattle.ledger.specs.declared.fault.LedgerFault.{LedgerFault}
use Rattle.ledger.specs.declared.runs.Call.{Call}
use Rattle.ledger.specs.declared.runs.Call.TheVariants as call
use Rattle.ledger.specs.declared.runs.Answer.{Answer}
use Rattle.ledger.specs.declared.runs.Answer.TheVariants as answer

-- what a granted call answers
abbrev pub Granted : Call → Type 0
Granted (call.Start x id) = Unit {0}
Granted (call.Connect from to) = Connected
Granted call.Disconnect = Disconnected
Granted (call.Settle n) = ℕ
Granted call.Flush = Unit {0}
Granted call.Tip = Tip
Granted (call.Look at) = Option Coin
Granted (call.Next from) = Option (Outpoint × Coin)
Granted (call.Balance lock) = Balance

-- the answer to a call
abbrev pub answer_to : (c : Call) → Result (Granted c) LedgerFault → Answer
answer_to (call.Start x id) r = answer.Start r
answer_to (call.Connect from to) r = answer.Connect r
answer_to call.Disconnect r = answer.Disconnect r
answer_to (call.Settle n) r = answer.Settle r
answer_to call.Flush r = answer.Flush r
answer_to call.Tip r = answer.Tip r
answer_to (call.Look at) r = answer.Look r
answer_to (call.Next from) r = answer.Next r
answer_to (call.Balance lock) r = answer.Balance r

-- a granted start, connect, disconnect or settle; a refused call and every other call leave what is read, and the undo entries
abbrev pub changes : Answer → Bool
changes (answer.Start r) = is_ok r
changes (answer.Connect r) = is_ok r
changes (answer.Disconnect r) = is_ok r
changes (answer.Settle r) = is_ok r
changes (answer.Flush r) = false
changes (answer.Tip r) = false
changes (answer.Look r) = false
changes (answer.Next r) = false
changes (answer.Balance r) = false
