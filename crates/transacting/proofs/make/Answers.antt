use Rattle.std.proofs.Common.{◌≡◌, None, sym, ◌∙◌}
use Rattle.coinsview.specs.Meaning.{coin_at}
use Rattle.connecting.proofs.Conserved.{placed_ok, put_none}
use Rattle.unwinding.proofs.Undone.{made_noted}
use Rattle.transacting.proofs.make.Goals as goal

pub returns-clause-taken : goal.returns-clause-taken
returns-clause-taken g c =
    let v = g.V.CoinsView in
    let a = c.args.state.now in
    let put = c.put.ensures in
    let is = placed_ok c.put.result c.map_err.result _ tt c.map_err.ensures.cases c.in_ok-map_err.was in
    let none : coin_at c.args.at (v.coins a.view) ≡ None = put_none (coin_at c.args.at (v.coins a.view)) _ tt (sym put.value ∙ is) in
    made_noted v a _ c.args.at c.in_ok-coin.coin put.fixed c.requires.room (rw is at put.map) c.push.ensures.after none
