use Rattle.std.proofs.Common.{◌≡◌, ◌-◌, ◌<◌, ◌≤◌, length, get_or, Less}
use Rattle.maps.specs.Maps.{place}
use Rattle.maps.specs.Keyed.{outpoints}
use Rattle.maps.proofs.search.find.Given as goal

abbrev pub invariant-loop-low : goal.invariant-loop-low
invariant-loop-low g l =
    (l.low ≤ place outpoints l.k l.cells) ×
    (place outpoints l.k l.cells ≤ l.high) ×
    (l.high ≤ length l.cells) ×
    (l.high < length l.cells → (d : _) → outpoints.cmp l.k (get_or l.cells l.high d).0 ≡ Less)

abbrev pub decreases-loop-low : goal.decreases-loop-low
decreases-loop-low g l = l.high - l.low
