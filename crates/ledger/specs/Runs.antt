-- Calls on the book, one by one and as a list.
use Rattle.std.specs.Prelude.{ℕ, min, List, [], ◌∷◌, take, drop, Ok, Err}
use Rattle.coinsview.specs.Meaning.{coin_at, next_in}
use Rattle.ledger.specs.declared.fault.LedgerFault.TheVariants as fault
use Rattle.ledger.specs.declared.runs.Call.{Call}
use Rattle.ledger.specs.declared.runs.Call.TheVariants as call
use Rattle.ledger.specs.declared.runs.Answer.{Answer}
use Rattle.ledger.specs.declared.runs.Answer.TheVariants as answer
use Rattle.ledger.specs.Book.{Book, connected, connect_answer, disconnected, disconnect_answer, settled, tip_of, coins_of, held_by}

-- the bytes from one place to another, as far as there are any
abbrev pub part : ℕ → ℕ → List ℕ → List ℕ
part from to bytes = drop from (take to bytes)

-- the book after a call that is given some bytes
abbrev pub book_after : List ℕ → Call → Book → Book
book_after bytes (call.Start x id) k = k
book_after bytes (call.Connect from to) k = connected k (part from to bytes)
book_after bytes call.Disconnect k = disconnected k
book_after bytes (call.Settle n) k = settled k n
book_after bytes call.Flush k = k
book_after bytes call.Tip k = k
book_after bytes (call.Look at) k = k
book_after bytes (call.Next from) k = k
book_after bytes (call.Balance lock) k = k

-- what the call answers
abbrev pub answer_of : List ℕ → Call → Book → Answer
answer_of bytes (call.Start x id) k = answer.Start (Err fault.Started)
answer_of bytes (call.Connect from to) k = answer.Connect (connect_answer k (part from to bytes))
answer_of bytes call.Disconnect k = answer.Disconnect (disconnect_answer k)
answer_of bytes (call.Settle n) k = answer.Settle (Ok (min n k.kept))
answer_of bytes call.Flush k = answer.Flush (Ok tt)
answer_of bytes call.Tip k = answer.Tip (Ok (tip_of k))
answer_of bytes (call.Look at) k = answer.Look (Ok (coin_at at (coins_of k)))
answer_of bytes (call.Next from) k = answer.Next (Ok (next_in from (coins_of k)))
answer_of bytes (call.Balance lock) k = answer.Balance (Ok (held_by lock (coins_of k)))

-- a list of calls
abbrev pub books_after : List ℕ → List Call → Book → Book
books_after bytes [] k = k
books_after bytes (c ∷ cs) k = books_after bytes cs (book_after bytes c k)

abbrev pub answers_of : List ℕ → List Call → Book → List Answer
answers_of bytes [] k = []
answers_of bytes (c ∷ cs) k = answer_of bytes c k ∷ answers_of bytes cs (book_after bytes c k)
