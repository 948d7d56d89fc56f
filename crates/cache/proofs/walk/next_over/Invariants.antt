use Rattle.std.proofs.Common.{◌≡◌, ◌+◌}
use Rattle.std.specs.List.{slice_get}
use Rattle.maps.specs.Maps.{next_of}
use Rattle.maps.specs.Keyed.{outpoints}
use Rattle.cache.specs.Rules.{over_below}
use Rattle.cache.proofs.walk.next_over.Given as goal

abbrev pub invariant-loop-at : goal.invariant-loop-at
invariant-loop-at g l =
    let v = g.V.CoinsView in
    v.ok l.below ×
    (v.most l.below ≡ v.most l.initial.below) ×
    (v.coins l.below ≡ v.coins l.initial.below) ×
    (next_of outpoints l.last l.entries ≡ slice_get l.entries (l.start + l.at-index)) ×
    (next_of outpoints l.last (over_below l.entries (v.coins l.initial.below)) ≡ next_of outpoints l.initial.last (over_below l.entries (v.coins l.initial.below)))
