-- The laws of maps from outpoints to coins.
use Rattle.std.specs.Prelude.{◌≡◌, ◌+◌, ◌⊎◌, [], length, Some, None, Option, ◌≢◌}
use Rattle.std.specs.declared.cmp.Ordering.TheVariants.{Less, Equal}
use Rattle.std.specs.Ordering.{ordering_reverse}
use Rattle.coins.specs.Order.{order}
use Rattle.coins.specs.declared.coin.Coin.{Coin}
use Rattle.coins.specs.declared.outpoint.Outpoint.{Outpoint}
use Rattle.maps.specs.Maps.{Sorted, Beyond, Least}
use Rattle.maps.specs.Keyed.{outpoints}
use Rattle.coinsview.specs.Meaning.{Coins, coin_at, with_coin, without, next_in}

pub record MapLaws : Type 0 where
  -- of two outpoints one is before the other, unless they are equal
  pub total : (x y : Outpoint) → (order x y ≡ Less) ⊎ ((x ≡ y) ⊎ (order y x ≡ Less))
  pub irreflexive : (x : Outpoint) → order x x ≢ Less
  pub transitive : (x y z : Outpoint) → order x y ≡ Less → order y z ≡ Less → order x z ≡ Less
  pub equal : (x y : Outpoint) → (order x y ≡ Equal → x ≡ y) × (x ≡ y → order x y ≡ Equal)
  pub opposite : (x y : Outpoint) → order y x ≡ ordering_reverse (order x y)
  -- two maps that look alike are equal; the empty map has no coin
  pub extensional : (m n : Coins) → Sorted outpoints m → Sorted outpoints n → ((k : Outpoint) → coin_at k m ≡ coin_at k n) → m ≡ n
  pub empty : (k : Outpoint) → coin_at k [] ≡ None
  -- a pair added
  pub with_sorted : (k : Outpoint) (c : Coin) (m : Coins) → Sorted outpoints m → Sorted outpoints (with_coin k c m)
  pub with_same : (k : Outpoint) (c : Coin) (m : Coins) → coin_at k (with_coin k c m) ≡ Some c
  pub with_other : (k q : Outpoint) (c : Coin) (m : Coins) → Sorted outpoints m → (q ≢ k) → coin_at q (with_coin k c m) ≡ coin_at q m
  pub with_count : (k : Outpoint) (c : Coin) (m : Coins) → coin_at k m ≡ None → length (with_coin k c m) ≡ length m + 1
  -- a pair removed; without an outpoint that has no coin the map is the same
  pub without_sorted : (k : Outpoint) (m : Coins) → Sorted outpoints m → Sorted outpoints (without k m)
  pub without_same : (k : Outpoint) (m : Coins) → Sorted outpoints m → coin_at k (without k m) ≡ None
  pub without_other : (k q : Outpoint) (m : Coins) → Sorted outpoints m → (q ≢ k) → coin_at q (without k m) ≡ coin_at q m
  pub without_count : (k : Outpoint) (c : Coin) (m : Coins) → coin_at k m ≡ Some c → length (without k m) + 1 ≡ length m
  pub without_absent : (k : Outpoint) (m : Coins) → coin_at k m ≡ None → without k m ≡ m
  -- each undoes the other
  pub added_removed : (k : Outpoint) (c : Coin) (m : Coins) → coin_at k m ≡ None → without k (with_coin k c m) ≡ m
  pub removed_added : (k : Outpoint) (c : Coin) (m : Coins) → Sorted outpoints m → coin_at k m ≡ Some c → with_coin k c (without k m) ≡ m
  -- next has the least outpoint above, and none where there is none above
  pub next_least : (from : Option Outpoint) (m : Coins) (p : Outpoint × Coin) → Sorted outpoints m → next_in from m ≡ Some p → Least outpoints from m p
  pub next_none : (from : Option Outpoint) (m : Coins) → Sorted outpoints m → next_in from m ≡ None → (q : Outpoint) → Beyond outpoints from q → coin_at q m ≡ None
