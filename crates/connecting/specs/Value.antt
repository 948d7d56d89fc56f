-- What coins are worth together.
use Rattle.std.specs.Prelude.{ℕ}
use Rattle.maps.specs.Maps.{total}
use Rattle.coinsview.specs.Meaning.{Coins}

abbrev pub value_in : Coins → ℕ
value_in m = total (λ c. c.value) m
