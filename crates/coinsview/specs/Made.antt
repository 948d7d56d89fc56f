-- What making a view gives.
use Rattle.std.specs.Prelude.{◌≡◌, ℕ}
use Rattle.coinsview.specs.Meaning.{Coins}
use Rattle.coinsview.specs.declared.view.CoinsView.{Ghosts}

-- by the meaning v, the view s is in order, with the capacity n, the map m and the bottom map b
pub record Means {S : Type 0} (v : Ghosts S) (n : ℕ) (m b : Coins) (s : S) : Type 0 where
  pub ok : v.ok s
  pub most : v.most s ≡ n
  pub coins : v.coins s ≡ m
  pub bottom : v.bottom s ≡ b
