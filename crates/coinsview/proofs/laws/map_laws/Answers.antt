use Rattle.std.proofs.Common.{◌≡◌, ℕ, ◌⊎◌, Ordering, Less, Equal, Greater, sym, refl, ap, ◌∙◌, inl, inr, arith}
use Rattle.std.specs.Ordering.{ordering_reverse}
use Rattle.coins.specs.Order.{order}
use Rattle.coins.specs.declared.outpoint.Outpoint.{Outpoint}
use Rattle.coins.proofs.Ordered.{order_itself, order_equal, order_flip, order_trans}
use Rattle.maps.specs.Keyed.{outpoints}
use Rattle.maps.proofs.Laws.{look_insert_same, look_insert_other, look_remove_same, look_remove_other, sorted_insert, sorted_remove, length_insert, length_remove, remove_absent, remove_insert, insert_remove, same_maps}
use Rattle.maps.proofs.Merged.{next_some, next_none}
use Rattle.coinsview.proofs.laws.map_laws.Goals as goal

one_first : (x y : Outpoint) → (order x y ≡ Less) ⊎ ((x ≡ y) ⊎ (order y x ≡ Less))
one_first x y = go (order x y) refl
  where
    go : (r : Ordering) → order x y ≡ r → (order x y ≡ Less) ⊎ ((x ≡ y) ⊎ (order y x ≡ Less))
    go Less e = inl e
    go Equal e = inr (inl (order_equal x y e))
    go Greater e = inr (inr (order_flip y x ∙ ap ordering_reverse e))

not_itself : (x : Outpoint) → order x x ≡ Less → ⊥
not_itself x e = let z : ◌≡◌ {A = ℕ} 0 1 = (let i = order_itself x in cc) in omega arith

when_equal : (x y : Outpoint) → x ≡ y → order x y ≡ Equal
when_equal x y e = ap (order x) (sym e) ∙ order_itself x

pub returns : goal.returns
returns c = record {
  total = one_first;
  irreflexive = not_itself;
  transitive = order_trans;
  equal = λ x y. (order_equal x y, when_equal x y);
  opposite = λ x y. order_flip y x;
  extensional = same_maps outpoints;
  empty = λ k. refl;
  with_sorted = sorted_insert outpoints;
  with_same = look_insert_same outpoints;
  with_other = look_insert_other outpoints;
  with_count = length_insert outpoints;
  without_sorted = sorted_remove outpoints;
  without_same = look_remove_same outpoints;
  without_other = look_remove_other outpoints;
  without_count = length_remove outpoints;
  without_absent = remove_absent outpoints;
  added_removed = remove_insert outpoints;
  removed_added = insert_remove outpoints;
  next_least = next_some outpoints;
  next_none = next_none outpoints;
}
