use Rattle.std.proofs.Common.{◌-◌, sym, refl, ap, ◌∙◌}
use Rattle.maps.proofs.Laws.{remove_absent}
use Rattle.maps.specs.Keyed.{outpoints}
use Rattle.coinsview.specs.Meaning.{coin_at, without}
use Rattle.cache.proofs.Turns.{says_is, take_left}
use Rattle.cache.proofs.cache.CacheCoinsView.take.Goals as goal

pub returns-in_err-coin-clause-map : goal.returns-in_err-coin-clause-map
returns-in_err-coin-clause-map g c =
    let t = c.seek-place.ensures in
    t.map ∙ sym (remove_absent outpoints c.args.at.now _ (sym t.value ∙ c.in_err-coin.was))

pub returns-clause-well : goal.returns-clause-well
returns-clause-well g c =
    let v = g.V.CoinsView in
    let s = c.seek-place.new.self in
    let t = c.seek-place.ensures in
    let p = c.erase.ensures in
    let found = ap (coin_at c.args.at.now) t.map ∙ sym t.value ∙ c.in_ok-coin.was in
    let left = take_left _ _ _ _ t.well.1 s.table.sorted (v.sorted s.below t.well.0) c.args.at.now _ _ refl found in
    (p.ok, (says_is _ _ _ _ _ _ _ _ _ left p.entries (ap (λ n. n - 1) p.count) p.below p.fixed).0)

pub returns-clause-map : goal.returns-clause-map
returns-clause-map g c =
    let v = g.V.CoinsView in
    let s = c.seek-place.new.self in
    let t = c.seek-place.ensures in
    let p = c.erase.ensures in
    let found = ap (coin_at c.args.at.now) t.map ∙ sym t.value ∙ c.in_ok-coin.was in
    let left = take_left _ _ _ _ t.well.1 s.table.sorted (v.sorted s.below t.well.0) c.args.at.now _ _ refl found in
    (says_is _ _ _ _ _ _ _ _ _ left p.entries (ap (λ n. n - 1) p.count) p.below p.fixed).1 ∙ ap (without c.args.at.now) t.map
