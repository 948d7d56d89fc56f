-- One coin taken or put: what the rules say of it. Assumes nothing.
use Rattle.std.proofs.Common.{◌≡◌, ℕ, ◌+◌, ◌<◌, ◌≤◌, Bool, true, false, leb, ◌⊎◌, List, ◌∷◌, Some, Ok, sym, refl, ap, inl, inr, arith}
use Rattle.std.proofs.lemmas.Bool.Decides.{leb_tells}
use Rattle.std.proofs.lemmas.Bool.{ne_eqb}
use Rattle.coins.specs.declared.coin.Coin.{Coin}
use Rattle.coins.specs.declared.coin.Lock.{Lock}
use Rattle.coins.specs.declared.outpoint.Outpoint.{Outpoint}
use Rattle.coins.proofs.Equals.{coin_parts}
use Rattle.coinsview.specs.Meaning.{Coins, coin_at, without}
use Rattle.blockform.specs.Value.{OutputValue, Piece, spends, makes}
use Rattle.connecting.specs.Parts.{inputs_in, outputs_in}
use Rattle.connecting.specs.Rules.{burns, worth, coins_made, value_burned, coin_by, coin_of, spend, spend_all, make, make_all}

-- an input that is next, and whose coin is taken
module _ (opens : Lock → List ℕ → ℕ → Bool) (maturity h i : ℕ) (k : Outpoint) (w : List ℕ) (ps qs : List Piece) (m : Coins) (paid : ℕ) (hands : ps ≡ spends (record { outpoint = k; witness = w }) ∷ qs) where
  pub input_spent : (c : Coin) (n : Coins) → Ok c ≡ spend opens maturity h (coin_at k m) w → n ≡ without k m → spend_all opens maturity h i (inputs_in ps) m paid ≡ spend_all opens maturity h (i + 1) (inputs_in qs) n (paid + c.value)
  input_spent c n e gone = rw (hands, ← e, gone) refl

-- the coin that an output makes, by its parts
pub coin_is : (y : OutputValue) (h : ℕ) (b : Bool) (c : Coin) → c.value ≡ y.value → c.lock ≡ y.lock → c.height ≡ h → c.coinbase ≡ b → coin_of y h b ≡ Some c
coin_is y h b c value lock height coinbase = go (leb_tells y.value 2100000000000000)
  where
    go : (t : ((leb y.value 2100000000000000 ≡ true) × (y.value ≤ 2100000000000000)) ⊎ ((leb y.value 2100000000000000 ≡ false) × (2100000000000000 < y.value))) → coin_by y.value t y.lock h b ≡ Some c
    go (inl p) = ap Some (coin_parts _ c (sym value) (sym lock) (sym height) (sym coinbase))
    go (inr p) = absurd (omega (arith, p.1, c.money, value))

-- an output that is next
module _ (room h i : ℕ) (id : List ℕ) (b : Bool) (y : OutputValue) (ps qs : List Piece) (m : Coins) (hands : ps ≡ makes y ∷ qs) where
  pub output_worth : worth (outputs_in ps) ≡ y.value + worth (outputs_in qs)
  output_worth = rw hands refl

  -- it makes a coin
  module _ (kind : y.lock.kind ≡ 0 → ⊥) where
    stays : burns y ≡ false
    stays = ne_eqb _ 0 kind

    pub coin_made : coins_made (outputs_in ps) ≡ coins_made (outputs_in qs) + 1
    coin_made = rw (hands, stays) (omega arith)

    pub coin_value : value_burned (outputs_in ps) ≡ value_burned (outputs_in qs)
    coin_value = rw (hands, stays) refl

    pub coin_leaves : (n : Coins) → make room id i (coin_of y h b) m ≡ Ok n → make_all room h id b i (outputs_in ps) m ≡ make_all room h id b (i + 1) (outputs_in qs) n
    coin_leaves n q = rw (hands, stays, q) refl
