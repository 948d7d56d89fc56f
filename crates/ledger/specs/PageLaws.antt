-- The laws over runs, of a ledger on any page: before the start and after it.
use Rattle.std.specs.Prelude.{◌≡◌, ℕ, ◌+◌, true, false, List, IsSomeAnd, Ok, Err, Result, ◌≢◌}
use Rattle.coinsview.specs.declared.view.CoinsView.{Ghosts as ViewGhosts}
use Rattle.views.specs.declared.condition.SpendCondition.{Ghosts as ConditionGhosts}
use Rattle.connecting.specs.Value.{value_in}
use Rattle.ledger.specs.declared.Ledger.{Ledger}
use Rattle.ledger.specs.declared.Outcome.TheVariants.{Clean}
use Rattle.ledger.specs.declared.fault.LedgerFault.{LedgerFault}
use Rattle.ledger.specs.declared.fault.LedgerFault.TheVariants.{Nothing}
use Rattle.ledger.specs.declared.runs.Call.{Call}
use Rattle.ledger.specs.declared.runs.Call.TheVariants as call
use Rattle.ledger.specs.declared.runs.Answer.{Answer}
use Rattle.ledger.specs.declared.runs.Answer.TheVariants as answer
use Rattle.ledger.specs.Book.{Book, replay, all_burned, all_subsidies}
use Rattle.ledger.specs.Answers.{Granted, answer_to, changes}
use Rattle.ledger.specs.Laws.{ends_in_flush}
use Rattle.ledger.specs.Pages.{Page, standing, At, page_after, answer_on, pages_after, answers_on}
use Rattle.ledger.specs.Standing.{Unchanged}

-- The call x takes the ledger a to z and is answered by r.
pub record Performed {V C : Type 0} (v : ViewGhosts V) (c : ConditionGhosts C) (bytes : List ℕ) (x : Call) (r : Answer) (a z : Ledger V C) : Type 0 where
  -- whatever page a is on, z is on the page after the call, and r is that page's answer
  pub law : (p : Page) → At v c p a → At v c (page_after bytes x p) z × (r ≡ answer_on bytes x p)
  -- r is an answer to such a call
  pub kind : (y : Result (Granted x) LedgerFault) × (r ≡ answer_to x y)
  -- where r does not say that the ledger was changed, what is read of it, and its undo entries, are as before
  pub same : (p : Page) → At v c p a → changes r ≡ false → Unchanged v a z

-- The laws of a started ledger l that the calls cs have brought to the book b.
pub record BookLaws {V C : Type 0} (v : ViewGhosts V) (c : ConditionGhosts C) (b : Book) (bytes : List ℕ) (cs : List Call) (l : Ledger V C) : Type 0 where
  -- its coins are those left by replaying the standing blocks
  pub coins : v.coins l.state.view ≡ replay b.terms b.blocks
  -- their values, with what the standing blocks burned, add up to the subsidies at the heights of these blocks
  pub values : value_in (v.coins l.state.view) + all_burned b.terms b.blocks ≡ all_subsidies b.terms b.blocks
  -- a disconnect made then is refused where no block is kept, and else answers the tip's height and clean
  pub refused : b.kept ≡ 0 → answer_on bytes call.Disconnect (standing b) ≡ answer.Disconnect (Err Nothing)
  pub granted : (b.kept ≢ 0) → IsSomeAnd l.active (λ h. answer_on bytes call.Disconnect (standing b) ≡ answer.Disconnect (Ok (record { height = h.tip.height; outcome = Clean })))
  -- if the last call was a flush, the bottom map holds exactly these coins
  pub flushed : ends_in_flush cs ≡ true → v.bottom l.state.view ≡ v.coins l.state.view

-- The ledger l was on the page p; then came the calls cs, and were answered by `said`.
pub record PageLaws {V C : Type 0} (v : ViewGhosts V) (c : ConditionGhosts C) (p : Page) (bytes : List ℕ) (cs : List Call) (said : List Answer) (l : Ledger V C) : Type 0 where
  -- it is on the page after these calls
  pub page : At v c (pages_after bytes cs p) l
  -- every call was answered as the page answers: before the start by a refusal, then as the book answers
  pub answers : said ≡ answers_on bytes cs p
  -- once started it stays so
  pub stays : (k : Book) → p ≡ standing k → (b : Book) × (pages_after bytes cs p ≡ standing b)
  -- and of a started ledger these laws hold
  pub book : (b : Book) → pages_after bytes cs p ≡ standing b → BookLaws v c b bytes cs l
