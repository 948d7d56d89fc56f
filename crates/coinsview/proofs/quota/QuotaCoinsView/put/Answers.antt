use Rattle.std.proofs.Common.{◌<◌, ◌≤◌, length, sym, refl, ap, ◌∙◌, subst, arith}
use Rattle.coinsview.specs.Meaning.{put_map}
use Rattle.coinsview.proofs.Puts.{put_under, put_few}
use Rattle.coinsview.proofs.quota.QuotaCoinsView.put.Goals as goal

pub returns-then-count-capacity : goal.returns-then-count-capacity
returns-then-count-capacity g c =
    let s = c.args.self.now in
    let v = g.V.CoinsView in
    let m = v.coins s.below in
    let e = c.put.ensures in
    let room : length m < s.limit = omega (arith, c.count.ensures, c.capacity.ensures, c.if-count-capacity.true) in
    let value = e.value ∙ put_under s.limit c.args.at m (v.most s.below) room c.requires.within in
    let few : length (v.coins c.put.new.self) ≤ s.limit = subst (λ x. length x ≤ s.limit) (sym (e.map ∙ ap (λ r. put_map r c.args.at c.args.coin m) value)) (put_few s.limit c.args.at m c.args.coin room) in
    record { well = record { below = e.well; within = omega (arith, e.fixed, c.requires.within); few = few }; fixed = refl; map = e.map; value = value }
