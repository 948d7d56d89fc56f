-- Whether a pair comes before an outpoint.
use Rattle.std.specs.Prelude.{Bool, true, false, Some, None, Option}
use Rattle.std.specs.declared.cmp.Ordering.TheVariants.{Less, Equal, Greater}
use Rattle.std.specs.declared.cmp.Ordering.{Ordering}
use Rattle.coins.specs.Order.{order}
use Rattle.coins.specs.declared.coin.Coin.{Coin}
use Rattle.coins.specs.declared.outpoint.Outpoint.{Outpoint}

abbrev pub earlier : Ordering → Bool
earlier Less = true
earlier Equal = false
earlier Greater = false

abbrev pub comes_before : Option (Outpoint × Coin) → Outpoint → Bool
comes_before None k = false
comes_before (Some p) k = earlier (order p.0 k)
