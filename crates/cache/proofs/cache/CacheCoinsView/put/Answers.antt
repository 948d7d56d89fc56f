use Rattle.std.proofs.Common.{◌≡◌, ◌+◌, ◌<◌, None, refl, ap, ◌∙◌, arith, rules}
use Rattle.coinsview.specs.Meaning.{coin_at, with_coin}
use Rattle.cache.specs.Parts.{map_of}
use Rattle.cache.proofs.Turns.{says_is, put_left}
use Rattle.cache.proofs.cache.CacheCoinsView.put.Goals as goal

pub returns-clause-well : goal.returns-clause-well
returns-clause-well g c =
    let v = g.V.CoinsView in
    let s = c.seek-place.new.self in
    let t = c.seek-place.ensures in
    let p = c.write.ensures in
    let none : coin_at c.args.at (map_of v s) ≡ None = search rules in
    let less : s.count < v.most s.below = omega (arith, c.capacity.ensures, c.if-self-capacity.false) in
    let left = put_left _ _ _ _ t.well.1 s.table.sorted (v.sorted s.below t.well.0) c.args.at c.args.coin _ refl none less in
    (p.ok, (says_is _ _ _ _ _ _ _ _ _ left p.entries (ap (λ n. n + 1) p.count) p.below p.fixed).0)

pub returns-clause-map : goal.returns-clause-map
returns-clause-map g c =
    let v = g.V.CoinsView in
    let s = c.seek-place.new.self in
    let t = c.seek-place.ensures in
    let p = c.write.ensures in
    let none : coin_at c.args.at (map_of v s) ≡ None = search rules in
    let less : s.count < v.most s.below = omega (arith, c.capacity.ensures, c.if-self-capacity.false) in
    let left = put_left _ _ _ _ t.well.1 s.table.sorted (v.sorted s.below t.well.0) c.args.at c.args.coin _ refl none less in
    (says_is _ _ _ _ _ _ _ _ _ left p.entries (ap (λ n. n + 1) p.count) p.below p.fixed).1 ∙ ap (with_coin c.args.at c.args.coin) t.map
