-- The page that a ledger is on: what it answers by. Before the start this is what it was made over, after the start the book.
--     page_after, answer_on       one call
--     pages_after, answers_on     a list of calls
use Rattle.std.specs.Prelude.{◌≡◌, ℕ, min, Bool, false, List, [], ◌∷◌, length, Ok, Err, Result}
use Rattle.coins.specs.declared.coin.Lock.{Lock}
use Rattle.coinsview.specs.Meaning.{Coins, coin_at, next_in}
use Rattle.coinsview.specs.declared.view.CoinsView.{Ghosts as ViewGhosts}
use Rattle.views.specs.declared.condition.SpendCondition.{Ghosts as ConditionGhosts}
use Rattle.ledger.specs.declared.terms.Parameters.{Parameters}
use Rattle.ledger.specs.declared.Ledger.{Ledger}
use Rattle.ledger.specs.declared.fault.LedgerFault.{LedgerFault}
use Rattle.ledger.specs.declared.fault.LedgerFault.TheVariants as fault
use Rattle.ledger.specs.declared.runs.Call.{Call}
use Rattle.ledger.specs.declared.runs.Call.TheVariants as call
use Rattle.ledger.specs.declared.runs.Answer.{Answer}
use Rattle.ledger.specs.declared.runs.Answer.TheVariants as answer
use Rattle.ledger.specs.Book.{Terms, Book, fresh, connected, connect_answer, disconnected, disconnect_answer, settled, tip_of, coins_of, held_by}
use Rattle.ledger.specs.Starting.{in_range, start_answer, start_terms}
use Rattle.ledger.specs.Runs.{part}
use Rattle.ledger.specs.Standing.{started, Stands}

-- when a witness opens a lock at a height
abbrev pub Opens : Type 0
Opens = Lock → List ℕ → ℕ → Bool

-- not started: the capacity, the condition and the coins that the ledger was made over; started: the book
pub data Page : Type 0 where
  unstarted : ℕ → Opens → Coins → Page
  standing : Book → Page

-- the ledger l is not started, over a view with the capacity n and the coins m, and over the condition o
pub record Waits {V C : Type 0} (v : ViewGhosts V) (c : ConditionGhosts C) (n : ℕ) (o : Opens) (m : Coins) (l : Ledger V C) : Type 0 where
  pub started : started l ≡ false
  pub room : v.most l.state.view ≡ n
  pub opens : c.opens l.condition ≡ o
  pub coins : v.coins l.state.view ≡ m

-- the ledger l is on a page
abbrev pub At : {V C : Type 0} → ViewGhosts V → ConditionGhosts C → Page → Ledger V C → Type 0
At v c (unstarted n o m) l = Waits v c n o m l
At v c (standing k) l = Stands v c k l

-- ---- one call

-- what the book changes to, and what it answers; before the start nothing changes, and the call is refused
abbrev pub book_by : (Book → Book) → Page → Page
book_by f (unstarted n o m) = unstarted n o m
book_by f (standing k) = standing (f k)

abbrev pub from_book : {X : Type 0} → (Book → Result X LedgerFault) → Page → Result X LedgerFault
from_book f (unstarted n o m) = Err fault.NotStarted
from_book f (standing k) = f k

-- a start, which a started ledger refuses
abbrev pub start_on : Page → Parameters → Result Unit LedgerFault
start_on (unstarted n o m) x = start_answer false (in_range x) (length m)
start_on (standing k) x = Err fault.Started

abbrev pub begun_by : Result Unit LedgerFault → Page → Terms → Page
begun_by (Ok u) p t = standing (fresh t)
begun_by (Err f) p t = p

abbrev pub begun : Page → Parameters → List ℕ → Page
begun (unstarted n o m) x id = begun_by (start_answer false (in_range x) (length m)) (unstarted n o m) (start_terms n o x id)
begun (standing k) x id = standing k

-- the page after a call that is given some bytes
abbrev pub page_after : List ℕ → Call → Page → Page
page_after bytes (call.Start x id) p = begun p x id
page_after bytes (call.Connect from to) p = book_by (λ k. connected k (part from to bytes)) p
page_after bytes call.Disconnect p = book_by disconnected p
page_after bytes (call.Settle n) p = book_by (λ k. settled k n) p
page_after bytes call.Flush p = p
page_after bytes call.Tip p = p
page_after bytes (call.Look at) p = p
page_after bytes (call.Next from) p = p
page_after bytes (call.Balance lock) p = p

-- what the call answers
abbrev pub answer_on : List ℕ → Call → Page → Answer
answer_on bytes (call.Start x id) p = answer.Start (start_on p x)
answer_on bytes (call.Connect from to) p = answer.Connect (from_book (λ k. connect_answer k (part from to bytes)) p)
answer_on bytes call.Disconnect p = answer.Disconnect (from_book disconnect_answer p)
answer_on bytes (call.Settle n) p = answer.Settle (from_book (λ k. Ok (min n k.kept)) p)
answer_on bytes call.Flush p = answer.Flush (from_book (λ k. Ok tt) p)
answer_on bytes call.Tip p = answer.Tip (from_book (λ k. Ok (tip_of k)) p)
answer_on bytes (call.Look at) p = answer.Look (from_book (λ k. Ok (coin_at at (coins_of k))) p)
answer_on bytes (call.Next from) p = answer.Next (from_book (λ k. Ok (next_in from (coins_of k))) p)
answer_on bytes (call.Balance lock) p = answer.Balance (from_book (λ k. Ok (held_by lock (coins_of k))) p)

-- ---- a list of calls

abbrev pub pages_after : List ℕ → List Call → Page → Page
pages_after bytes [] p = p
pages_after bytes (c ∷ cs) p = pages_after bytes cs (page_after bytes c p)

abbrev pub answers_on : List ℕ → List Call → Page → List Answer
answers_on bytes [] p = []
answers_on bytes (c ∷ cs) p = answer_on bytes c p ∷ answers_on bytes cs (page_after bytes c p)
