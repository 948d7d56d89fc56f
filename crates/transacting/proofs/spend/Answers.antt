use Rattle.std.proofs.Common.{◌≡◌, Some, sym, ap, ◌∙◌}
use Rattle.coinsview.specs.Meaning.{coin_at, without}
use Rattle.unwinding.proofs.Undone.{spent_noted}
use Rattle.transacting.proofs.spend.Goals as goal

pub returns-clause-taken : goal.returns-clause-taken
returns-clause-taken g c =
    let v = g.V.CoinsView in
    let a = c.args.state.now in
    let here : coin_at c.args.at (v.coins a.view) ≡ Some c.in-Some.coin = sym c.look.ensures.value ∙ c.in-Some.is in
    spent_noted v a _ c.args.at c.in-Some.coin (c.take.ensures.fixed ∙ c.look.ensures.fixed) c.requires.room c.requires.well (c.take.ensures.map ∙ ap (without c.args.at) c.look.ensures.map) c.push.ensures.after here
