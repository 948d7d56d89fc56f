use Rattle.std.proofs.Common.{arith}
use Rattle.blockbytes.proofs.Steps.{input_next, inputs_again}
use Rattle.blockform.proofs.reader.fields.past_inputs.Goals as goal

pub overflow_add-at : goal.overflow_add-at
overflow_add-at c = omega (arith, (input_next c.args.b.now c.args.n c.loop-i._i c.loop-i.at c.loop-i-test.true c.loop-i.invariant.0).inside)

pub overflow_add-at-in-loop-i : goal.overflow_add-at-in-loop-i
overflow_add-at-in-loop-i c = omega (arith, (input_next c.args.b.now c.args.n c.loop-i._i c.loop-i.at c.loop-i-test.true c.loop-i.invariant.0).inside)

pub bounds-b-at : goal.bounds-b-at
bounds-b-at c = omega (arith, (input_next c.args.b.now c.args.n c.loop-i._i c.loop-i.at c.loop-i-test.true c.loop-i.invariant.0).inside)

pub overflow_add-at-in-loop-i-2 : goal.overflow_add-at-in-loop-i-2
overflow_add-at-in-loop-i-2 c = omega (arith, (input_next c.args.b.now c.args.n c.loop-i._i c.loop-i.at c.loop-i-test.true c.loop-i.invariant.0).inside)

pub loop-i-preserved : goal.loop-i-preserved
loop-i-preserved c =
    inputs_again c.args.b.now c.args.n c.loop-i._i c.loop-i.at c.args.at c.loop-i-test.true c.loop-i.invariant.0 c.loop-i.invariant.1
