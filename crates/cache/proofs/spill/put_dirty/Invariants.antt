use Rattle.std.proofs.Common.{◌≡◌, drop}
use Rattle.maps.specs.Layers.{Fits}
use Rattle.maps.specs.Keyed.{outpoints}
use Rattle.cache.specs.Rules.{marks, put_below}
use Rattle.cache.proofs.spill.put_dirty.Given as goal

abbrev pub invariant-loop-at : goal.invariant-loop-at
invariant-loop-at g l =
    let v = g.V.CoinsView in
    v.ok l.below ×
    (v.most l.below ≡ v.most l.initial.below) ×
    (put_below (drop l.at-index l.entries) (v.coins l.below) ≡ put_below l.entries (v.coins l.initial.below)) ×
    Fits outpoints marks (v.most l.initial.below) (drop l.at-index l.entries) (v.coins l.below)
