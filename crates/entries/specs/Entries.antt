-- The entries of a cache: a map from outpoints, in their order.
use Rattle.std.specs.Prelude.{true, false, List, Some, None, Option}
use Rattle.coins.specs.declared.coin.Coin.{Coin}
use Rattle.coins.specs.declared.outpoint.Outpoint.{Outpoint}
use Rattle.maps.specs.Maps.{look, insert, remove}
use Rattle.maps.specs.Keyed.{outpoints}
use Rattle.entries.specs.declared.table.Entry.{Entry}

abbrev pub Entries : Type 0
Entries = List (Outpoint × Entry)

abbrev pub entry_at : Outpoint → Entries → Option Entry
entry_at k es = look outpoints k es

abbrev pub with_entry : Outpoint → Entry → Entries → Entries
with_entry k e es = insert outpoints k e es

abbrev pub without_entry : Outpoint → Entries → Entries
without_entry k es = remove outpoints k es

-- a coin that stands below
abbrev pub clean : Coin → Entry
clean c = record { coin = Some c; dirty = false; fresh = false }

-- a new coin, with none below
abbrev pub created : Coin → Entry
created c = record { coin = Some c; dirty = true; fresh = true }

-- a new coin in the place of one that stands below
abbrev pub replaced : Coin → Entry
replaced c = record { coin = Some c; dirty = true; fresh = false }

-- no coin, in the place of one that stands below
abbrev pub spent : Entry
spent = record { coin = None; dirty = true; fresh = false }
