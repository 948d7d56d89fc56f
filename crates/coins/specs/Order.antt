-- The order of outpoints: the identifier's bytes, the first weighing most, then the index. Assumes nothing.
use Rattle.std.specs.Prelude.{replicate}
use Rattle.std.specs.declared.cmp.Ordering.{Ordering}
use Rattle.std.specs.Ordering.{ordering_then, nat_cmp}
use Rattle.std.specs.Cmp.Lexicographic.{slice_cmp}
use Rattle.coins.specs.declared.outpoint.Outpoint.{Outpoint}

abbrev pub order : Outpoint → Outpoint → Ordering
order x y = ordering_then (slice_cmp nat_cmp x.id y.id) (nat_cmp x.index y.index)

-- what a coinbase names in the place of an input
abbrev pub null_outpoint : Outpoint
null_outpoint = record { id = replicate 32 0; index = 4294967295 }
