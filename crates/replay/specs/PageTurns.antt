-- What a run prints: each line of the script turns the page of the ledger and the place in the block file, and prints a line.
--     calls_for        the call that a command makes on the ledger
--     line_for         the line that it prints
--     calls_of, printed    those of all lines of a script
--     printout         the text of a run
use Rattle.std.specs.Prelude.{◌≡◌, ℕ, ◌+◌, cond, List, [], ◌∷◌, ◌++◌, length, replicate, Some, None, Ok, Err, Option, Result, nat_lt}
use Rattle.refusal.specs.declared.Reason.TheVariants as reason
use Rattle.coins.specs.declared.coin.Lock.{Lock}
use Rattle.coinsview.specs.declared.view.CoinsView.{Ghosts as ViewGhosts}
use Rattle.views.specs.declared.condition.SpendCondition.{Ghosts as ConditionGhosts}
use Rattle.blockfile.specs.declared.fault.FileFault.{FileFault}
use Rattle.blockform.specs.Faults.{file_refusal}
use Rattle.blockform.specs.File.{record_at}
use Rattle.ledger.specs.declared.Ledger.{Ledger}
use Rattle.ledger.specs.declared.terms.Parameters.{Parameters}
use Rattle.ledger.specs.declared.runs.Call.{Call}
use Rattle.ledger.specs.declared.runs.Call.TheVariants as call
use Rattle.ledger.specs.declared.runs.Answer.{Answer}
use Rattle.ledger.specs.Book.{connect_answer, disconnect_answer, coins_of, held_by}
use Rattle.ledger.specs.PageLaws.{PageLaws}
use Rattle.ledger.specs.Pages.{Page, At, start_on, from_book, pages_after}
use Rattle.script.specs.declared.command.Command.{Command}
use Rattle.script.specs.declared.command.Command.TheVariants.{Start, Connect, Disconnect, Balance}
use Rattle.script.specs.Cuts.{lines_of}
use Rattle.printout.specs.declared.Line.{Line}
use Rattle.printout.specs.declared.Line.TheVariants.{Refused}
use Rattle.printout.specs.Texts.{line_text}
use Rattle.replay.specs.Answers.{start_line, connect_line, disconnect_line, balance_line}
use Rattle.replay.specs.Turns.{parsed, place_after, texts}

-- a ledger is started with an identifier of zeros
abbrev pub start_id : List ℕ
start_id = replicate 32 0

abbrev pub parameters : ℕ → ℕ → ℕ → Parameters
parameters h m l = record { halving = h; maturity = m; last = l }

abbrev pub lock_of : ℕ → ℕ → Lock
lock_of k a = record { kind = k; argument = a }

-- ---- a command, with the file at place p

-- the block of a record is the part of the file after the 4 bytes of its length
abbrev pub connect_call : ℕ → Result (List ℕ) FileFault → List Call
connect_call p (Ok b) = call.Connect (p + 4) (p + 4 + length b) ∷ []
connect_call p (Err e) = []

-- the call that a command makes; '+' makes none where there is no record
abbrev pub calls_for : List ℕ → ℕ → Command → List Call
calls_for file p (Start h m l) = call.Start (parameters h m l) start_id ∷ []
calls_for file p Connect = connect_call p (record_at file p)
calls_for file p Disconnect = call.Disconnect ∷ []
calls_for file p (Balance k a) = call.Balance (lock_of k a) ∷ []

-- the line of a '+', by the record and the page q
abbrev pub record_line : Page → Result (List ℕ) FileFault → Line
record_line q (Ok b) = connect_line (from_book (λ k. connect_answer k b) q)
record_line q (Err e) = Refused (file_refusal e)

-- the line that a command prints
abbrev pub line_for : List ℕ → ℕ → Command → Page → Line
line_for file p (Start h m l) q = start_line (start_on q (parameters h m l))
line_for file p Connect q = record_line q (record_at file p)
line_for file p Disconnect q = disconnect_line (from_book disconnect_answer q)
line_for file p (Balance k a) q = balance_line (lock_of k a) (from_book (λ b. Ok (held_by (lock_of k a) (coins_of b))) q)

-- ---- a line of the script, which may be no command; n is its number

abbrev pub turn_place : List ℕ → ℕ → Option Command → ℕ
turn_place file p None = p
turn_place file p (Some k) = place_after file p k

abbrev pub turn_calls : List ℕ → ℕ → Option Command → List Call
turn_calls file p None = []
turn_calls file p (Some k) = calls_for file p k

abbrev pub turn_line : List ℕ → ℕ → ℕ → Option Command → Page → Line
turn_line file n p None q = Refused (record { reason = reason.BadLine; first = n; second = 0 })
turn_line file n p (Some k) q = line_for file p k q

-- ---- all lines of the script, after n lines, with the file at place p and the ledger on page q

abbrev pub calls_of : List ℕ → ℕ → List (Option (List ℕ)) → List Call
calls_of file p [] = []
calls_of file p (l ∷ ls) = turn_calls file p (parsed l) ++ calls_of file (turn_place file p (parsed l)) ls

abbrev pub printed : List ℕ → ℕ → ℕ → Page → List (Option (List ℕ)) → List Line
printed file n p q [] = []
printed file n p q (l ∷ ls) = turn_line file (n + 1) p (parsed l) q ∷ printed file (n + 1) (turn_place file p (parsed l)) (pages_after file (turn_calls file p (parsed l)) q) ls

-- ---- the whole run

abbrev pub too_long : Line
too_long = Refused (record { reason = reason.FileOverSize; first = 0; second = 0 })

-- a file of more than 65,536 bytes is refused, and nothing else is done
abbrev pub script_calls : List ℕ → List ℕ → List Call
script_calls file script = cond (nat_lt 65536 (length file)) [] (calls_of file 0 (lines_of script))

abbrev pub printout : List ℕ → List ℕ → Page → List ℕ
printout file script q = cond (nat_lt 65536 (length file)) (line_text too_long) (texts (printed file 0 0 q (lines_of script)))

-- ---- what a part of a run does to a ledger

-- Whatever page the ledger a is on and whatever calls brought it there, z is the ledger after the calls ds more, and the laws over runs hold of it.
abbrev pub RunsOn : {V C : Type 0} → ViewGhosts V → ConditionGhosts C → List ℕ → List Call → Ledger V C → Ledger V C → Type 0
RunsOn v c file ds a z = (q : Page) (cs : List Call) (said : List Answer) → PageLaws v c q file cs said a → (more : List Answer) × PageLaws v c q file (cs ++ ds) (said ++ more) z

-- The calls ds take the ledger a to z, and the line x is what the page of a says.
pub record PageTurn {V C : Type 0} (v : ViewGhosts V) (c : ConditionGhosts C) (file : List ℕ) (ds : List Call) (says : Page → Line) (x : Line) (a z : Ledger V C) : Type 0 where
  pub line : (q : Page) → At v c q a → x ≡ says q
  pub runs : RunsOn v c file ds a z
