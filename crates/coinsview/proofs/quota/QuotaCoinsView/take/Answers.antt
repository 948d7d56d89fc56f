use Rattle.std.proofs.Common.{◌≤◌, None, length, ap, arith}
use Rattle.maps.specs.Keyed.{outpoints}
use Rattle.maps.proofs.Laws.{length_write}
use Rattle.coinsview.proofs.quota.QuotaCoinsView.take.Goals as goal

pub returns-clause-well : goal.returns-clause-well
returns-clause-well g c =
    let s = c.args.self.now in
    let e = c.take.ensures in
    let v = g.V.CoinsView in
    let few : length (v.coins c.take.new.self) ≤ s.limit = omega (arith, ap length e.map, length_write outpoints c.args.at.now None (v.coins s.below), c.requires.few) in
    record { below = e.well; within = omega (arith, e.fixed, c.requires.within); few = few }
