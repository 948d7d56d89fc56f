-- A cache by its parts, over a view with the meaning v.
use Rattle.std.specs.Prelude.{ℕ}
use Rattle.coinsview.specs.Meaning.{Coins}
use Rattle.coinsview.specs.declared.view.CoinsView.{Ghosts}
use Rattle.entries.specs.Entries.{Entries}
use Rattle.entries.specs.Table.{entries_in}
use Rattle.cache.specs.declared.cache.Cache.{Cache}
use Rattle.cache.specs.Kept.{Kept, sorted_over, kept_single}
use Rattle.cache.specs.Rules.{over_below}

abbrev pub entries_of : {B : Type 0} → Cache B → Entries
entries_of c = entries_in c.table

-- the map of the view below, and its capacity
abbrev pub below_of : {B : Type 0} → Ghosts B → Cache B → Coins
below_of v c = v.coins c.below

abbrev pub room_of : {B : Type 0} → Ghosts B → Cache B → ℕ
room_of v c = v.most c.below

abbrev pub map_of : {B : Type 0} → Ghosts B → Cache B → Coins
map_of v c = over_below (entries_of c) (below_of v c)

abbrev pub CacheOk : {B : Type 0} → Ghosts B → Cache B → Type 0
CacheOk v c = v.ok c.below × Kept (entries_of c) c.count (below_of v c) (room_of v c)

-- a cache's being in order has one proof at most, where the view's below has
pub cache_single : {B : Type 0} (v : Ghosts B) → ((b : B) → IsProp (v.ok b)) → (c : Cache B) → IsProp (CacheOk v c)
cache_single v single c = Prim.hlevel (single c.below, kept_single (entries_of c) c.count (below_of v c) (room_of v c))

abbrev pub cache_view : {B : Type 0} → Ghosts B → Ghosts (Cache B)
cache_view v = record {
  ok = CacheOk v;
  most = room_of v;
  coins = map_of v;
  bottom = λ c. v.bottom c.below;
  sorted = λ c h. sorted_over (entries_of c) (below_of v c) (v.sorted c.below h.0);
  few = λ c h. h.1.fits;
  small = λ c h. v.small c.below h.0;
}
