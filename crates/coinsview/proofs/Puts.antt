-- What put answers, by what is there.
use Rattle.std.proofs.Common.{◌≡◌, ℕ, ◌<◌, ◌≤◌, false, ltb, length, Some, None, Ok, Err, Option, sym, refl, ap, ◌∙◌, subst, arith, lt-ltb}
use Rattle.std.proofs.lemmas.Bool.Decides.{nat_tests}
use Rattle.coins.specs.declared.coin.Coin.{Coin}
use Rattle.coins.specs.declared.outpoint.Outpoint.{Outpoint}
use Rattle.maps.specs.Keyed.{outpoints}
use Rattle.maps.proofs.Laws.{length_insert}
use Rattle.coinsview.specs.Meaning.{Coins, coin_at, put_by, put_answer, put_map}
use Rattle.coinsview.specs.declared.fault.ViewFault.TheVariants.{Exists, Full}

module _ (n : ℕ) (k : Outpoint) (m : Coins) where
  pub put_exists : (old : Coin) → coin_at k m ≡ Some old → Err Exists ≡ put_answer n k m
  put_exists old h = sym (ap (λ w. put_by w (ltb (length m) n)) h)

  pub put_full : coin_at k m ≡ None → n ≤ length m → Err Full ≡ put_answer n k m
  put_full h l =
      let no : ltb (length m) n ≡ false = grind (arith, nat_tests) in
      sym (ap (λ w. put_by w (ltb (length m) n)) h ∙ ap (put_by None) no)

  pub put_yes : coin_at k m ≡ None → length m < n → Ok tt ≡ put_answer n k m
  put_yes h l = sym (ap (λ w. put_by w (ltb (length m) n)) h ∙ ap (put_by None) (lt-ltb (length m) n l))

  -- a greater capacity answers the same while there is room under the smaller
  pub put_under : (most : ℕ) → length m < n → n ≤ most → put_answer most k m ≡ put_answer n k m
  put_under most l h =
      let more : length m < most = omega arith in
      ap (put_by (coin_at k m)) (lt-ltb (length m) most more ∙ sym (lt-ltb (length m) n l))

  -- and the map then keeps to it
  pub put_few : (c : Coin) → length m < n → length (put_map (put_answer n k m) k c m) ≤ n
  put_few c l = go (coin_at k m) refl
    where
      go : (w : Option Coin) → coin_at k m ≡ w → length (put_map (put_by w (ltb (length m) n)) k c m) ≤ n
      go (Some old) e = omega arith
      go None e = subst (λ b. length (put_map (put_by None b) k c m) ≤ n) (sym (lt-ltb (length m) n l)) (omega (arith, length_insert outpoints k c m e))
