use Rattle.std.proofs.Common.{◌≡◌, drop}
use Rattle.cache.specs.Rules.{taken_below}
use Rattle.cache.proofs.spill.take_dirty.Given as goal

abbrev pub invariant-loop-at : goal.invariant-loop-at
invariant-loop-at g l =
    let v = g.V.CoinsView in
    v.ok l.below × (v.most l.below ≡ v.most l.initial.below) × (taken_below (drop l.at-index l.entries) (v.coins l.below) ≡ taken_below l.entries (v.coins l.initial.below))
