-- The laws over runs: what holds of a ledger after any list of calls, by the book that was fed the same calls.
use Rattle.std.specs.Prelude.{◌≡◌, ℕ, ◌+◌, Bool, true, false, List, [], ◌∷◌, IsSomeAnd, Ok, Err, ◌≢◌}
use Rattle.coinsview.specs.declared.view.CoinsView.{Ghosts as ViewGhosts}
use Rattle.views.specs.declared.condition.SpendCondition.{Ghosts as ConditionGhosts}
use Rattle.connecting.specs.Value.{value_in}
use Rattle.ledger.specs.declared.Ledger.{Ledger}
use Rattle.ledger.specs.declared.Outcome.TheVariants.{Clean}
use Rattle.ledger.specs.declared.fault.LedgerFault.TheVariants.{Nothing}
use Rattle.ledger.specs.declared.runs.Call.{Call}
use Rattle.ledger.specs.declared.runs.Call.TheVariants as call
use Rattle.ledger.specs.declared.runs.Answer.{Answer}
use Rattle.ledger.specs.Book.{Book, replay, all_burned, all_subsidies, disconnect_answer}
use Rattle.ledger.specs.Standing.{Stands}
use Rattle.ledger.specs.Runs.{books_after, answers_of}

abbrev pub is_flush : Call → Bool
is_flush (call.Start x id) = false
is_flush (call.Connect from to) = false
is_flush call.Disconnect = false
is_flush (call.Settle n) = false
is_flush call.Flush = true
is_flush call.Tip = false
is_flush (call.Look at) = false
is_flush (call.Next from) = false
is_flush (call.Balance lock) = false

-- the last call of a list is a flush
abbrev pub ends_in_flush : List Call → Bool
ends_in_flush [] = false
ends_in_flush (c ∷ []) = is_flush c
ends_in_flush (c ∷ (d ∷ cs)) = ends_in_flush (d ∷ cs)

-- l is the ledger after the calls cs, which were answered by `said`; k is the book that it stood by before them
pub record Laws {V C : Type 0} (v : ViewGhosts V) (c : ConditionGhosts C) (k : Book) (bytes : List ℕ) (cs : List Call) (said : List Answer) (l : Ledger V C) : Type 0 where
  -- the ledger stands by the book after these calls
  pub stands : Stands v c (books_after bytes cs k) l
  -- its coins are those left by replaying the standing blocks, and every call was answered as the book answers
  pub coins : v.coins l.state.view ≡ replay (books_after bytes cs k).terms (books_after bytes cs k).blocks
  pub answers : said ≡ answers_of bytes cs k
  -- the values of its coins, with what the standing blocks burned, add up to the subsidies at their heights
  pub values : value_in (v.coins l.state.view) + all_burned (books_after bytes cs k).terms (books_after bytes cs k).blocks ≡ all_subsidies (books_after bytes cs k).terms (books_after bytes cs k).blocks
  -- a disconnect then is refused where none is kept, and else answers the tip's height and clean
  pub refused : (books_after bytes cs k).kept ≡ 0 → disconnect_answer (books_after bytes cs k) ≡ Err Nothing
  pub granted : ((books_after bytes cs k).kept ≢ 0) → IsSomeAnd l.active (λ h. disconnect_answer (books_after bytes cs k) ≡ Ok (record { height = h.tip.height; outcome = Clean }))
  -- if the last call was a flush, the bottom map holds exactly these coins
  pub flushed : ends_in_flush cs ≡ true → v.bottom l.state.view ≡ v.coins l.state.view
