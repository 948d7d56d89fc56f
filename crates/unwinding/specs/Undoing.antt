-- Taking a block back: its undo entries, from the newest to its mark.
use Rattle.std.specs.Prelude.{ℕ, Bool, true, false, ◌&&◌, List, [], ◌∷◌, is_ok, Some, None, Option}
use Rattle.coins.specs.declared.coin.Coin.{Coin}
use Rattle.coins.specs.Same.{same_coin}
use Rattle.coinsview.specs.Meaning.{Coins, coin_at, without, put_answer, put_map}
use Rattle.undo.specs.declared.Record.{Record}
use Rattle.undo.specs.declared.Record.TheVariants.{Mark, Made, Spent}

-- the identifier in the mark, the entries below it, the coins then, and whether each entry found them as the block had left them
pub record Back : Type 0 where
  pub previous : List ℕ
  pub below : List Record
  pub coins : Coins
  pub clean : Bool

-- the coin that is there is c
abbrev pub own : Coin → Option Coin → Bool
own c None = false
own c (Some d) = same_coin d c

module _ (room : ℕ) where
  -- one entry taken back: a coin that was made is taken, whatever coin it is; one that was spent is put, unless that is refused
  abbrev pub undone : Record → Coins → Coins
  undone (Mark p) m = m
  undone (Made k c) m = without k m
  undone (Spent k c) m = put_map (put_answer room k m) k c m

  abbrev pub found : Record → Coins → Bool
  found (Mark p) m = true
  found (Made k c) m = own c (coin_at k m)
  found (Spent k c) m = is_ok (put_answer room k m)

  -- the entries down to the first mark, taken back in that order; b is whether those before went clean
  abbrev pub back : List Record → Coins → Bool → Option Back
  back [] m b = None
  back (Mark p ∷ es) m b = Some (record { previous = p; below = es; coins = m; clean = b })
  back (Made k c ∷ es) m b = back es (undone (Made k c) m) (found (Made k c) m && b)
  back (Spent k c ∷ es) m b = back es (undone (Spent k c) m) (found (Spent k c) m && b)
