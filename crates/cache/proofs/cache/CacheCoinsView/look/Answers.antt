use Rattle.std.proofs.Common.{sym, refl, ap, ◌∙◌, subst}
use Rattle.coinsview.specs.Meaning.{coin_at}
use Rattle.cache.proofs.Turns.{says_is, look_left}
use Rattle.cache.proofs.cache.CacheCoinsView.look.Goals as goal

pub returns-clause-well : goal.returns-clause-well
returns-clause-well g c =
    let v = g.V.CoinsView in
    let s = c.seek-place.new.self in
    let t = c.seek-place.ensures in
    let k = c.keep.ensures in
    let found = ap (coin_at c.args.at.now) t.map ∙ sym t.value ∙ c.in_ok-coin.was in
    let left = look_left _ _ _ _ t.well.1 s.table.sorted (v.sorted s.below t.well.0) c.args.at.now _ _ refl found in
    (subst v.ok (sym k.below) t.well.0, (says_is _ _ _ _ _ _ _ _ _ left k.entries k.count (ap v.coins k.below) (ap v.most k.below)).0)

pub returns-clause-map : goal.returns-clause-map
returns-clause-map g c =
    let v = g.V.CoinsView in
    let s = c.seek-place.new.self in
    let t = c.seek-place.ensures in
    let k = c.keep.ensures in
    let found = ap (coin_at c.args.at.now) t.map ∙ sym t.value ∙ c.in_ok-coin.was in
    let left = look_left _ _ _ _ t.well.1 s.table.sorted (v.sorted s.below t.well.0) c.args.at.now _ _ refl found in
    (says_is _ _ _ _ _ _ _ _ _ left k.entries k.count (ap v.coins k.below) (ap v.most k.below)).1 ∙ t.map
