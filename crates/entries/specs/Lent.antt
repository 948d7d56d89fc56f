-- What the places end as, where one of them is lent.
use Rattle.std.specs.Prelude.{ℕ, ◌∷◌, [], slice_set, Option}
use Rattle.std.specs.Borrow.{LendsIf, MutBor, Fml}
use denote.Struct.Tuple.{Tuple}
use Rattle.coins.specs.declared.outpoint.Outpoint.{Outpoint}
use Rattle.coins.specs.contracts.outpoint.Outpoint.{the_row as outpoint_row}
use Rattle.entries.specs.declared.table.Entry.{Entry}
use Rattle.entries.specs.declared.table.Slots.{Slots}
use Rattle.entries.specs.contracts.table.Entry.{the_row as entry_row}
use Rattle.entries.specs.contracts.table.Slots.{the_row as slots_row}

-- s with the pair p at i
abbrev pub with_slot : Slots → ℕ → (Outpoint × Entry) → Slots
with_slot s i p = record { entries = record { items = slice_set s.entries.items i p } }

-- once the borrow r ends, the pair at i is the last one written through r
abbrev pub lends_slot : MutBor Slots → ℕ → Option (MutBor (Outpoint × Entry)) → Fml
lends_slot s i r = LendsIf slots_row (Tuple (outpoint_row ∷ entry_row ∷ [])) s r (with_slot s.now i) s.now
