use Rattle.std.proofs.Common.{inl, ap, arith, rules}
use Rattle.blockform.specs.Readers.{items_good}
use Rattle.blockform.proofs.Few.{items_few}
use Rattle.checking.proofs.check_outputs.Goals as goal

pub loop-output-init-derived : goal.loop-output-init-derived
loop-output-init-derived c =
    let all = c.into_iter-output-iterator.result in
    let few = items_few all.iter (items_good _) in
    let none = ap (λ x. x.count) c.into_iter-output-iterator.ensures.into_iter_gives in
    ((tt, tt, inl (omega (arith, c.enumerate-output-items.ensures.count))), tt)

pub loop-output-init : goal.loop-output-init
loop-output-init c = let few = items_few c.args.outputs (items_good _) in search rules
