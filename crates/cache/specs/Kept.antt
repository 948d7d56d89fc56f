-- When the parts of a cache are in order.
use Rattle.std.specs.Prelude.{◌≡◌, ℕ, ◌≤◌, length}
use Rattle.maps.specs.Maps.{Sorted}
use Rattle.maps.specs.Layers.{Flags}
use Rattle.maps.specs.Keyed.{outpoints}
use Rattle.std.proofs.Props.{props}
use Rattle.maps.proofs.Layered.{sorted_laid}
use Rattle.coinsview.specs.Meaning.{Coins}
use Rattle.entries.specs.Entries.{Entries}
use Rattle.cache.specs.Rules.{marks, over_below}

-- of entries, which their table has in order and 64 at most, a count n, and below a map m of `most` pairs at most
pub record Kept (es : Entries) (n : ℕ) (m : Coins) (most : ℕ) : Type 0 where
  -- an entry that is not dirty says what is below; a fresh one has a coin and none below; any other has a coin below
  pub step : Flags outpoints marks es m
  pub counted : n ≡ length (over_below es m)
  pub fits : length (over_below es m) ≤ most

pub sorted_over : (es : Entries) (m : Coins) → Sorted outpoints m → Sorted outpoints (over_below es m)
sorted_over es m s = sorted_laid outpoints marks es m s

pub kept_single : (es : Entries) (n : ℕ) (m : Coins) (most : ℕ) → IsProp (Kept es n m most)
kept_single es n m most = Prim.hlevel props
