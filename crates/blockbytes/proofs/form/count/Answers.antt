use Rattle.std.proofs.Common.{sym, ap, ◌∙◌, arith, rules}
use Rattle.compact.specs.Compact.{read_size}
use Rattle.blockbytes.specs.Form.{count}
use Rattle.blockbytes.proofs.Steps.{count_none, count_yes, count_over}
use Rattle.blockbytes.proofs.form.count.Goals as goal

pub returns-in_default : goal.returns-in_default
returns-in_default c = let h = c.in_default.ensures.lookup in sym (count_none c.args.limit c.args.b.now c.args.at h.3)

pub returns-then-n-limit : goal.returns-then-n-limit
returns-then-n-limit c =
    let h = c.in-Some.ensures.lookup in
    sym (count_yes c.args.limit c.args.b.now c.args.at _ c.requires h.3.0 (h.3.1 0) (omega arith))

pub returns-in-Err-Cut : goal.returns-in-Err-Cut
unfolding count
returns-in-Err-Cut c = search rules

pub returns-in-Err-LongForm : goal.returns-in-Err-LongForm
unfolding count
returns-in-Err-LongForm c = search rules

pub returns-in-Ok : goal.returns-in-Ok
returns-in-Ok c =
    let h = c.in-Some.ensures.lookup in
    sym (count_over c.args.limit c.args.b.now c.args.at _ _ c.requires h.3.0 (omega (arith, h.3.1 0)) (ap read_size (sym c.split_at.ensures.back) ∙ c.in-Ok.ensures.answer))
