-- A reason with its place.
use Rattle.std.specs.Prelude.{ℕ}
use Rattle.refusal.specs.declared.Reason.{Reason}
use Rattle.refusal.specs.declared.Refusal.{Refusal}

abbrev pub placed : Reason → ℕ → ℕ → Refusal
placed r first second = record { reason = r; first = first; second = second }
