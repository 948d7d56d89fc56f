use Rattle.std.proofs.Common.{ap, ◌∙◌}
use Rattle.connecting.specs.Subsidy.{halved}
use Rattle.connecting.proofs.Halvings.{halvings_is, shifted_is}
use Rattle.connecting.proofs.subsidy.subsidy.Goals as goal

pub returns : goal.returns
returns c =
    let e = c.unwrap_or-halvings.ensures ∙ halvings_is c.args.interval c.args.height c.checked_div.result c.checked_div.ensures in
    c.unwrap_or.ensures ∙ shifted_is c.unwrap_or-halvings.result c.checked_shr.result c.checked_shr.ensures ∙ ap (λ k. halved k 5000000000) e
