use Rattle.std.proofs.Common.{◌≡◌, ◌-◌, true, is_ok}
use Rattle.blockbytes.specs.Form.{times, input}
use Rattle.blockbytes.specs.Places.{input_end, end_of}
use Rattle.blockform.proofs.reader.fields.past_inputs.Given as goal

-- the inputs that are left can be read, and end where all of them end
abbrev pub invariant-loop-i : goal.invariant-loop-i
invariant-loop-i l = (is_ok (times (l.n - l._i) (input l.b) l.at) ≡ true) × (end_of (l.n - l._i) (input_end l.b) l.at ≡ end_of l.n (input_end l.b) l.initial.at)
