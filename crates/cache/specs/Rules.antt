-- The rules of a cache: what each call leaves of its entries es, and of the map m of the view below.
--     put_entries      on an outpoint with no entry, a dirty and fresh one; on a spent entry, dirty and not fresh
--     take_entries     a fresh entry is dropped; else a spent entry, dirty and not fresh
--     look_entries     a coin found below enters without flags, while there are fewer than 64 entries
--     with_room        a 65th entry finds the cache emptied by a spill
--     spilled_below    a spill takes every outpoint of a dirty entry that is not fresh, then puts every dirty coin
use Rattle.std.specs.Prelude.{cond, [], length, Some, None, Ok, Err, Option, Result, nat_lt}
use Rattle.coins.specs.declared.coin.Coin.{Coin}
use Rattle.coins.specs.declared.outpoint.Outpoint.{Outpoint}
use Rattle.maps.specs.Layers.{Marks, laid, takes, puts}
use Rattle.maps.specs.Keyed.{outpoints}
use Rattle.coinsview.specs.Meaning.{Coins}
use Rattle.coinsview.specs.declared.fault.ViewFault.{ViewFault}
use Rattle.entries.specs.declared.table.Entry.{Entry}
use Rattle.entries.specs.Entries.{Entries, entry_at, with_entry, without_entry, clean, created, replaced, spent}

abbrev pub marks : Marks Coin Entry
marks = record { value = λ e. e.coin; dirty = λ e. e.dirty; fresh = λ e. e.fresh }

-- the map of the cache: an entry first, else what is below
abbrev pub over_below : Entries → Coins → Coins
over_below es m = laid outpoints marks es m

-- ---- spilling

abbrev pub taken_below : Entries → Coins → Coins
taken_below es m = takes outpoints marks es m

abbrev pub put_below : Entries → Coins → Coins
put_below es m = puts outpoints marks es m

abbrev pub spilled_below : Entries → Coins → Coins
spilled_below es m = put_below es (taken_below es m)

-- ---- room for one entry more

abbrev pub with_room : Entries → Entries
with_room es = cond (nat_lt (length es) 64) es []

abbrev pub below_with_room : Entries → Coins → Coins
below_with_room es m = cond (nat_lt (length es) 64) m (spilled_below es m)

-- below, where an entry was there and where one was added
abbrev pub room_under : Option Entry → Entries → Coins → Coins
room_under (Some e) es m = m
room_under None es m = below_with_room es m

-- ---- put, by its answer

abbrev pub put_entry : Option Entry → Outpoint → Coin → Entries → Entries
put_entry (Some e) k c es = with_entry k (replaced c) es
put_entry None k c es = with_entry k (created c) (with_room es)

abbrev pub put_entries : Result Unit ViewFault → Outpoint → Coin → Entries → Entries
put_entries (Ok u) k c es = put_entry (entry_at k es) k c es
put_entries (Err f) k c es = es

abbrev pub put_under : Result Unit ViewFault → Outpoint → Entries → Coins → Coins
put_under (Ok u) k es m = room_under (entry_at k es) es m
put_under (Err f) k es m = m

-- ---- take, by its answer

abbrev pub take_entry : Option Entry → Outpoint → Entries → Entries
take_entry (Some e) k es = cond e.fresh (without_entry k es) (with_entry k spent es)
take_entry None k es = with_entry k spent (with_room es)

abbrev pub take_entries : Option Coin → Outpoint → Entries → Entries
take_entries (Some c) k es = take_entry (entry_at k es) k es
take_entries None k es = es

abbrev pub take_under : Option Coin → Outpoint → Entries → Coins → Coins
take_under (Some c) k es m = room_under (entry_at k es) es m
take_under None k es m = m

-- ---- look, by its answer

abbrev pub look_entry : Option Entry → Outpoint → Coin → Entries → Entries
look_entry (Some e) k c es = es
look_entry None k c es = cond (nat_lt (length es) 64) (with_entry k (clean c) es) es

abbrev pub look_entries : Option Coin → Outpoint → Entries → Entries
look_entries (Some c) k es = look_entry (entry_at k es) k c es
look_entries None k es = es
