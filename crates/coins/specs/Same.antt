-- When two locks, and two coins, are the same: in each of their parts.
use Rattle.std.specs.Prelude.{◌≡◌, Bool, true, false, not, ◌&&◌, Decides, ◌==◌}
use Rattle.coins.specs.declared.coin.Coin.{Coin}
use Rattle.coins.specs.declared.coin.Lock.{Lock}

abbrev pub same_flag : Bool → Bool → Bool
same_flag true b = b
same_flag false b = not b

abbrev pub same_lock : Lock → Lock → Bool
same_lock x y = x.kind == y.kind && x.argument == y.argument

abbrev pub same_coin : Coin → Coin → Bool
same_coin x y = x.value == y.value && (same_lock x.lock y.lock && (x.height == y.height && same_flag x.coinbase y.coinbase))

-- the test comes out true exactly where the two are equal
abbrev pub SameIsEqual : Type 0
SameIsEqual = ((x y : Lock) → Decides (same_lock x y) (x ≡ y)) × ((x y : Coin) → Decides (same_coin x y) (x ≡ y))
