use Rattle.std.proofs.Common.{◌≡◌, ◌+◌, ◌*◌, ◌≤◌, length, Ok}
use Rattle.blockform.specs.Readers.{transactions_of}
use Rattle.connecting.specs.Rules.{then, others_checks, others_needs}
use Rattle.checking.proofs.check_others.Given as goal

-- what is left answers what the whole answers
abbrev pub invariant-loop-before : goal.invariant-loop-before
invariant-loop-before l =
    let left = l.before-iterator in
    (left.count + length (transactions_of left.iter) ≤ 64) ×
    (l.needed ≤ 128 * left.count) ×
    (then (others_checks 1 (transactions_of l.fn.others)) (λ _. Ok (others_needs (transactions_of l.fn.others))) ≡ then (others_checks (left.count + 1) (transactions_of left.iter)) (λ _. Ok (l.needed + others_needs (transactions_of left.iter))))
