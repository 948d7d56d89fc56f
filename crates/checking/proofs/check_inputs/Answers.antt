use Rattle.std.proofs.Common.{inl, ap, arith, rules}
use Rattle.blockform.specs.Readers.{items_good}
use Rattle.blockform.proofs.Few.{items_few}
use Rattle.connecting.proofs.Tests.{null_is}
use Rattle.checking.proofs.check_inputs.Goals as goal

pub loop-input-init-derived : goal.loop-input-init-derived
loop-input-init-derived c =
    let all = c.into_iter-input-iterator.result in
    let few = items_few all.iter (items_good _) in
    let none = ap (λ x. x.count) c.into_iter-input-iterator.ensures.into_iter_gives in
    ((tt, tt, inl (omega (arith, c.enumerate-input-items.ensures.count))), tt)

pub loop-input-init : goal.loop-input-init
loop-input-init c = let few = items_few c.args.inputs (items_good _) in search rules

pub loop-input-preserved : goal.loop-input-preserved
loop-input-preserved c = let t = null_is _ _ c.if-is_null.ensures in search rules

pub returns-then-is_null : goal.returns-then-is_null
returns-then-is_null c = let t = null_is _ _ c.if-is_null.ensures in search rules
