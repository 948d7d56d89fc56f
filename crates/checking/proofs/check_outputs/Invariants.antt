use Rattle.std.proofs.Common.{◌≡◌, ◌+◌, ◌≤◌, length, Ok}
use Rattle.blockform.specs.Readers.{items_of}
use Rattle.connecting.specs.Parts.{outputs_in}
use Rattle.connecting.specs.Rules.{then, money, coins_made}
use Rattle.checking.proofs.check_outputs.Given as goal

-- what is left answers what the whole answers
abbrev pub invariant-loop-output : goal.invariant-loop-output
invariant-loop-output l =
    let left = l.output-iterator in
    (l.sum ≤ 2100000000000000) ×
    (left.count + length (items_of left.iter) ≤ 64) ×
    (l.made ≤ left.count) ×
    (then (money 0 0 (outputs_in (items_of l.fn.outputs))) (λ _. Ok (coins_made (outputs_in (items_of l.fn.outputs)))) ≡ then (money left.count l.sum (outputs_in (items_of left.iter))) (λ _. Ok (l.made + coins_made (outputs_in (items_of left.iter)))))
