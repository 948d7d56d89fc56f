use Rattle.std.proofs.Common.{◌≡◌, ◌+◌, ◌≤◌, length}
use Rattle.blockform.specs.Readers.{items_of}
use Rattle.connecting.specs.Parts.{inputs_in}
use Rattle.connecting.specs.Rules.{no_null}
use Rattle.checking.proofs.check_inputs.Given as goal

-- what is left answers what the whole answers
abbrev pub invariant-loop-input : goal.invariant-loop-input
invariant-loop-input l =
    let left = l.input-iterator in
    (left.count + length (items_of left.iter) ≤ 64) ×
    (no_null 0 (inputs_in (items_of l.fn.inputs)) ≡ no_null left.count (inputs_in (items_of left.iter)))
