-- What a search, a put and a take say of a table that is kept in order.
use Rattle.std.proofs.Common.{◌≡◌, ℕ, ◌+◌, ◌-◌, ◌<◌, length, get_or, set, Some, Ok, Err, sym, ap, ◌∙◌, subst, arith}
use Rattle.std.specs.List.{CopiedTo, SameBelow, insert, remove}
use Rattle.std.proofs.lemmas.List.{length-set, length-take-le, get_or-take}
use Rattle.coins.specs.declared.coin.Coin.{Coin}
use Rattle.coins.specs.declared.outpoint.Outpoint.{Outpoint}
use Rattle.maps.specs.Maps.{Sorted}
use Rattle.maps.specs.Keyed.{outpoints}
use Rattle.maps.specs.Search.{Found}
use Rattle.maps.proofs.Laws.{sorted_insert, sorted_remove, insert_place, remove_place}
use Rattle.coinsview.specs.Meaning.{Coins, coin_at, with_coin, without}
use Rattle.coinsview.specs.Table.{TableOk, empty_cell, used_cells}
use Rattle.coinsview.proofs.Shifts.{opened, closed}

module _ (k : Outpoint) (used : ℕ) (cells : Coins) (h : TableOk used cells) (i : ℕ) where
  pub many : length (used_cells used cells) ≡ used
  many = length-take-le used cells h.within

  pub coin_there : Found outpoints k (used_cells used cells) (Ok i) → (d : Outpoint × Coin) → coin_at k (used_cells used cells) ≡ Some (get_or cells i d).1
  coin_there f d = f.2 d ∙ ap (λ x. Some x.1) (get_or-take used cells i d (omega (arith, many, f.1)))

  -- ---- the cells after a put and a take
  module _ (new : Coins) (long : length new ≡ length cells) where
    module _ (c : Coin) (f : Found outpoints k (used_cells used cells) (Err i)) (room : used < length cells) (moved : CopiedTo cells new i (i + 1) (used - i)) (low : SameBelow cells new (i + 1)) where
      pub put_map : used_cells (used + 1) (set new i (k, c)) ≡ with_coin k c (used_cells used cells)
      put_map = opened cells new used i long (k, c) (omega (arith, many, f.1)) room moved low ∙ ap (λ j. insert (used_cells used cells) j (k, c)) f.0 ∙ sym (insert_place outpoints k c (used_cells used cells) f.2)

      pub put_ok : TableOk (used + 1) (set new i (k, c))
      put_ok =
          let same : length (set new i (k, c)) ≡ length cells = length-set new i (k, c) ∙ long in
          record { within = omega arith; small = omega (arith, h.small); sorted = subst (Sorted outpoints) (sym put_map) (sorted_insert outpoints k c (used_cells used cells) h.sorted) }

    module _ (f : Found outpoints k (used_cells used cells) (Ok i)) (moved : CopiedTo cells new (i + 1) i (used - (i + 1))) (low : SameBelow cells new i) where
      pub take_map : used_cells (used - 1) new ≡ without k (used_cells used cells)
      take_map = closed cells new used i long (omega (arith, many, f.1)) h.within moved low ∙ ap (remove (used_cells used cells)) f.0 ∙ sym (remove_place outpoints k _ (used_cells used cells) (f.2 empty_cell))

      pub take_ok : TableOk (used - 1) new
      take_ok = record { within = omega (arith, h.within); small = omega (arith, h.small); sorted = subst (Sorted outpoints) (sym take_map) (sorted_remove outpoints k (used_cells used cells) h.sorted) }
