-- What a line of a script does, as far as no ledger decides it.
use Rattle.std.specs.Prelude.{◌≡◌, ℕ, ◌+◌, ◌<◌, ◌≤◌, List, [], ◌∷◌, ◌++◌, length, IfSome, Some, None, Ok, Err, Option, Result}
use Rattle.refusal.specs.declared.Reason.TheVariants as reason
use Rattle.refusal.specs.declared.Refusal.{Refusal}
use Rattle.blockfile.specs.declared.fault.FileFault.{FileFault}
use Rattle.blockform.specs.Faults.{file_refusal}
use Rattle.blockform.specs.File.{record_at}
use Rattle.script.specs.declared.command.Command.{Command}
use Rattle.script.specs.declared.command.Command.TheVariants.{Start, Connect, Disconnect, Balance}
use Rattle.script.specs.Commands.{command_of}
use Rattle.script.specs.Cuts.{lines_of}
use Rattle.printout.specs.declared.Line.{Line}
use Rattle.printout.specs.declared.Line.TheVariants.{Refused}
use Rattle.printout.specs.Texts.{line_text}

-- the command of a line that was cut from the script
abbrev pub parsed : Option (List ℕ) → Option Command
parsed None = None
parsed (Some bs) = command_of bs

-- past a record, if there is one
abbrev pub past : ℕ → Result (List ℕ) FileFault → ℕ
past p (Ok b) = p + 4 + length b
past p (Err e) = p

-- the place in the file after a command
abbrev pub place_after : List ℕ → ℕ → Command → ℕ
place_after file p (Start h m l) = p
place_after file p Connect = past p (record_at file p)
place_after file p Disconnect = p
place_after file p (Balance k a) = p

abbrev pub no_record : Result (List ℕ) FileFault → Option Refusal
no_record (Ok b) = None
no_record (Err e) = Some (file_refusal e)

-- the refusal before the ledger is asked: '+' finds no record
abbrev pub refused_first : List ℕ → ℕ → Command → Option Refusal
refused_first file p (Start h m l) = None
refused_first file p Connect = no_record (record_at file p)
refused_first file p Disconnect = None
refused_first file p (Balance k a) = None

-- a command moves the file from place p to q and the ledger from a to z, and answers x
pub record Moved {L : Type 0} (file : List ℕ) (p q : ℕ) (a z : L) (x : Line) (k : Command) : Type 0 where
  pub place : q ≡ place_after file p k
  pub first : IfSome (refused_first file p k) (λ e. (x ≡ Refused e) × (z ≡ a))

-- the n-th line: a command, or refused with its number, and nothing moves
abbrev pub Turn : {L : Type 0} → List ℕ → ℕ → ℕ → ℕ → L → L → Line → Option Command → Type 0
Turn file n p q a z x None = (x ≡ Refused (record { reason = reason.BadLine; first = n; second = 0 })) × (q ≡ p) × (z ≡ a)
Turn file n p q a z x (Some k) = Moved file p q a z x k

-- lines as they are printed, an LF after each
abbrev pub texts : List Line → List ℕ
texts [] = []
texts (x ∷ xs) = line_text x ++ texts xs

-- one printed line for each line of the script, or the refusal of a file that is too long
pub record Printed (file script text : List ℕ) : Type 0 where
  pub long : 65536 < length file → text ≡ line_text (Refused (record { reason = reason.FileOverSize; first = 0; second = 0 }))
  pub lines : length file ≤ 65536 → (xs : List Line) × (text ≡ texts xs) × (length xs ≡ length (lines_of script))
