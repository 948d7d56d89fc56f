use Rattle.std.proofs.Common.{sym, ap, ◌∙◌, arith, lit<}
use Rattle.blockbytes.specs.Form.{then, times, output}
use Rattle.blockbytes.proofs.Steps.{count_ok, outputs_yes}
use Rattle.blockbytes.proofs.form.outputs.Goals as goal

pub overflow_add-end : goal.overflow_add-end
overflow_add-end c =
    let k = count_ok 64 c.args.b.now c.args.at c.in_ok-n.n c.in_ok-n.at (lit< tt) (sym c.in_ok-n.ensures) in
    omega (arith, k.place, k.inside, k.small)

pub overflow_mul-end : goal.overflow_mul-end
overflow_mul-end c =
    let k = count_ok 64 c.args.b.now c.args.at c.in_ok-n.n c.in_ok-n.at (lit< tt) (sym c.in_ok-n.ensures) in
    omega (arith, k.small)

pub returns-then-end-b : goal.returns-then-end-b
returns-then-end-b c =
    let b = c.args.b.now in
    let k = count_ok 64 b c.args.at c.in_ok-n.n c.in_ok-n.at (lit< tt) (sym c.in_ok-n.ensures) in
    sym (ap (λ r. then r (λ n. times n.0 (output b) n.1)) (sym c.in_ok-n.ensures) ∙ outputs_yes b c.in_ok-n.n c.in_ok-n.at (omega (arith, k.place, k.inside)))
