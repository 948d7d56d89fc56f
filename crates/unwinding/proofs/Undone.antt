-- A coin taken and noted, or put and noted, is found again on the way back. Assumes nothing.
use Rattle.std.proofs.Common.{◌≡◌, ◌<◌, cond, subst, ℕ, ◌≤◌, true, ◌&&◌, ltb, List, ◌∷◌, length, is_ok, Some, None, Ok, ap, ◌∙◌, arith, lt-ltb}
use Rattle.coins.specs.declared.coin.Coin.{Coin}
use Rattle.coins.specs.declared.outpoint.Outpoint.{Outpoint}
use Rattle.coins.proofs.Equals.{coin_itself}
use Rattle.maps.specs.Maps.{Sorted}
use Rattle.maps.specs.Keyed.{outpoints}
use Rattle.maps.proofs.Laws.{look_insert_same, look_remove_same, length_remove, insert_remove, remove_insert}
use Rattle.coinsview.specs.Meaning.{Coins, coin_at, with_coin, without, put_by, put_answer, put_map}
use Rattle.undo.specs.declared.Record.{Record}
use Rattle.undo.specs.declared.Record.TheVariants.{Made, Spent}
use Rattle.coinsview.specs.declared.view.CoinsView.{Ghosts}
use Rattle.undo.specs.Entries.{entries, pushed}
use Rattle.unwinding.specs.declared.chainstate.Chainstate.{Chainstate}
use Rattle.unwinding.specs.Undoing.{own, back}
use Rattle.unwinding.specs.TakenBack.{TakenBack}

module _ (room : ℕ) (es : List Record) (k : Outpoint) (c : Coin) (m : Coins) where
  -- a spent coin goes back where it was
  pub spent_back : Sorted outpoints m → length m ≤ room → coin_at k m ≡ Some c → back room (Spent k c ∷ es) (without k m) true ≡ back room es m true
  spent_back s few here =
      let none : coin_at k (without k m) ≡ None = look_remove_same outpoints k m s in
      let less : ltb (length (without k m)) room ≡ true = lt-ltb _ _ (omega (arith, length_remove outpoints k c m here)) in
      let yes : put_answer room k (without k m) ≡ Ok tt = ap (λ x. put_by x (ltb (length (without k m)) room)) none ∙ ap (put_by None) less in
      ap (λ r. back room es (put_map r k c (without k m)) (is_ok r && true)) yes ∙ ap (λ n. back room es n true) (insert_remove outpoints k c m s here)

  -- a coin made is taken away
  pub made_back : coin_at k m ≡ None → back room (Made k c ∷ es) (with_coin k c m) true ≡ back room es m true
  made_back none =
      ap (λ x. back room es (without k (with_coin k c m)) (own c x && true)) (look_insert_same outpoints k c m)
      ∙ ap (λ b. back room es (without k (with_coin k c m)) (b && true)) (coin_itself c)
      ∙ ap (λ n. back room es n true) (remove_insert outpoints k c m none)

-- a coin that was taken, or put, and noted
module _ {V : Type 0} (v : Ghosts V) (a b : Chainstate V) (k : Outpoint) (c : Coin) (fixed : v.most b.view ≡ v.most a.view) (less : length (entries a.undo) < 512) where
  noted : (r : Record) → entries b.undo ≡ pushed r (entries a.undo) → entries b.undo ≡ r ∷ entries a.undo
  noted r e = e ∙ ap (λ x. cond x (r ∷ entries a.undo) (entries a.undo)) (lt-ltb _ _ less)

  pub spent_noted : v.ok a.view → v.coins b.view ≡ without k (v.coins a.view) → entries b.undo ≡ pushed (Spent k c) (entries a.undo) → coin_at k (v.coins a.view) ≡ Some c → TakenBack v a b
  spent_noted well map after here = record {
    fixed = fixed;
    back = rw (noted (Spent k c) after, map) (spent_back (v.most a.view) (entries a.undo) k c (v.coins a.view) (v.sorted a.view well) (v.few a.view well) here);
  }

  pub made_noted : v.coins b.view ≡ with_coin k c (v.coins a.view) → entries b.undo ≡ pushed (Made k c) (entries a.undo) → coin_at k (v.coins a.view) ≡ None → TakenBack v a b
  made_noted map after none = record {
    fixed = fixed;
    back = rw (noted (Made k c) after, map) (made_back (v.most a.view) (entries a.undo) k c (v.coins a.view) none);
  }

-- one step and then another
pub taken_twice : {V : Type 0} (v : Ghosts V) (a b c : Chainstate V) → TakenBack v a b → TakenBack v b c → TakenBack v a c
taken_twice v a b c s t = record {
  fixed = t.fixed ∙ s.fixed;
  back = subst (λ room. back room (entries c.undo) (v.coins c.view) true ≡ back room (entries b.undo) (v.coins b.view) true) s.fixed t.back ∙ s.back;
}
