use Rattle.std.proofs.Common.{◌≡◌, ◌*◌, drop}
use Rattle.std.specs.Cmp.Lexicographic.{slice_cmp}
use Rattle.coins.proofs.outpoint.compare_ids.Given as goal
use Rattle.std.specs.Ordering.{nat_cmp}

abbrev pub invariant-loop-k : goal.invariant-loop-k
invariant-loop-k l = slice_cmp nat_cmp l.a l.b ≡ slice_cmp nat_cmp (drop (8 * l.k) l.a) (drop (8 * l.k) l.b)
