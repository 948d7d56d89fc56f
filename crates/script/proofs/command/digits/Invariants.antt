use Rattle.std.proofs.Common.{◌≡◌, drop}
use Rattle.script.specs.Commands.{value_after, after_digits}
use Rattle.script.proofs.command.digits.Given as goal

-- what is left has the value and the rest of the whole
abbrev pub invariant-loop-i : goal.invariant-loop-i
invariant-loop-i l = (value_after 0 l.bytes ≡ value_after l.value (drop l.i l.bytes)) × (after_digits l.bytes ≡ after_digits (drop l.i l.bytes))
