-- The turns of the walk for the next pair.
use Rattle.std.proofs.Common.{◌≡◌, ℕ, zero, suc, ◌+◌, ◌-◌, ◌<◌, ◌≤◌, true, false, List, [], ◌∷◌, length, get_or, take, drop, Some, None, Option, Ordering, Less, Equal, Greater, sym, refl, ap, ◌∙◌, take_all, arith}
use Rattle.std.proofs.lemmas.List.{get_or-drop, length-drop}
use Rattle.std.specs.List.{slice_get}
use Rattle.coins.specs.declared.outpoint.Outpoint.{Outpoint}
use Rattle.coins.specs.declared.coin.Coin.{Coin}
use Rattle.coins.specs.Order.{order}
use Rattle.maps.specs.Maps.{Sorted, look, next_of, Beyond}
use Rattle.maps.proofs.Merged.{next_none, next_below, next_before, next_entry, next_spent, none_before, next_at}
use Rattle.maps.specs.Keyed.{outpoints}
use Rattle.coinsview.specs.Meaning.{Coins, next_in}
use Rattle.entries.specs.declared.table.Entry.{Entry}
use Rattle.entries.specs.Entries.{Entries}
use Rattle.cache.specs.Rules.{marks, over_below}
use Rattle.cache.specs.Walk.{earlier, comes_before}

nth_at : {X : Type 0} (xs : List X) (i : ℕ) (d : X) → i < length xs → slice_get xs i ≡ Some (get_or xs i d)
nth_at [] i d l = absurd (omega arith)
nth_at (x ∷ xs) zero d l = refl
nth_at (x ∷ xs) (suc i) d l = nth_at xs i d (omega arith)

nth_past : {X : Type 0} (xs : List X) (i : ℕ) → length xs ≤ i → slice_get xs i ≡ None
nth_past [] i l = refl
nth_past (x ∷ xs) zero l = absurd (omega arith)
nth_past (x ∷ xs) (suc i) l = nth_past xs i (omega arith)

-- the entries from the place a on, as a slice of them shows
abbrev pub rest : Entries → ℕ → Entries
rest es a = take (length es - a) (drop a es)

rest_is : (es : Entries) (a : ℕ) → rest es a ≡ drop a es
rest_is es a = take_all (length es - a) (drop a es) (omega (arith, length-drop a es))

rest_within : (es : Entries) (a j : ℕ) → j < length (rest es a) → a + j < length es
rest_within es a j l = omega (arith, ap length (rest_is es a), length-drop a es)

rest_item : (es : Entries) (a j : ℕ) (d : Outpoint × Entry) → d ≡ get_or (rest es a) j d → d ≡ get_or es (a + j) d
rest_item es a j d r = r ∙ ap (λ xs. get_or xs j d) (rest_is es a) ∙ get_or-drop a es j d

rest_past : (es : Entries) (a j : ℕ) → a ≤ length es → length (rest es a) ≤ j → length es ≤ a + j
rest_past es a j w l = omega (arith, ap length (rest_is es a), length-drop a es)

earlier_less : (r : Ordering) → earlier r ≡ true → r ≡ Less
earlier_less Less e = refl
earlier_less Equal e = grind arith
earlier_less Greater e = grind arith

earlier_not : (r : Ordering) → earlier r ≡ false → r ≡ Less → ⊥
earlier_not r e l = let q : ◌≡◌ {A = ℕ} 0 1 = grind arith in omega arith

module _ (last : Option Outpoint) (es : Entries) (m : Coins) (t : Sorted outpoints es) (s : Sorted outpoints m) (a j : ℕ) (f : next_of outpoints last es ≡ slice_get es (a + j)) where
  pub next_past : (b : Option (Outpoint × Coin)) → b ≡ next_of outpoints last m → a ≤ length es → length (rest es a) ≤ j → b ≡ next_of outpoints last (over_below es m)
  next_past b h w l = sym (next_below outpoints marks last es m t s b (sym h) (λ q z. next_none outpoints last es t (f ∙ nth_past es (a + j) (rest_past es a j w l)) q z))

  -- at the entry d, which is the j-th from the place a on
  module _ (d : Outpoint × Entry) (l : j < length (rest es a)) (r : d ≡ get_or (rest es a) j d) where
    here : next_of outpoints last es ≡ Some d
    here = f ∙ nth_at es (a + j) d (rest_within es a j l) ∙ ap Some (sym (rest_item es a j d r))

    pub found_before : (b : Option (Outpoint × Coin)) → b ≡ next_of outpoints last m → comes_before b d.0 ≡ true → b ≡ next_of outpoints last (over_below es m)
    found_before None h e = absurd (let q : ◌≡◌ {A = ℕ} 0 1 = cc in omega arith)
    found_before (Some p) h e = sym (next_before outpoints marks last es m t s p d (sym h) here (earlier_less (order p.0 d.0) e))

    none_up_to : (b : Option (Outpoint × Coin)) → b ≡ next_of outpoints last m → comes_before b d.0 ≡ false → (q : Outpoint) → Beyond outpoints last q → outpoints.cmp q d.0 ≡ Less → look outpoints q m ≡ None
    none_up_to b h e = none_before outpoints marks last es m t s b d.0 (sym h) (λ p x c. earlier_not (order p.0 d.0) (ap (λ y. comes_before y d.0) (sym x) ∙ e) c)

    pub found_entry : (b : Option (Outpoint × Coin)) (v : Coin) → b ≡ next_of outpoints last m → comes_before b d.0 ≡ false → d.1.coin ≡ Some v → Some (d.0, v) ≡ next_of outpoints last (over_below es m)
    found_entry b v h e y = sym (next_entry outpoints marks last es m t s d v here y (none_up_to b h e))

    pub found_spent : (b : Option (Outpoint × Coin)) → b ≡ next_of outpoints last m → comes_before b d.0 ≡ false → d.1.coin ≡ None → next_of outpoints (Some d.0) (over_below es m) ≡ next_of outpoints last (over_below es m)
    found_spent b h e y = sym (next_spent outpoints marks last es m t s d here y (none_up_to b h e))

    pub next_first : next_of outpoints (Some d.0) es ≡ slice_get es (a + (j + 1))
    next_first = ap (λ x. next_of outpoints (Some x.0) es) (rest_item es a j d r) ∙ next_at outpoints es (a + j) d t (rest_within es a j l) ∙ ap (slice_get es) (omega arith)

-- what the view below answers
pub asked : (last r : Option Outpoint) (n m : Coins) (b : Option (Outpoint × Coin)) → b ≡ next_in r n → r ≡ last → n ≡ m → b ≡ next_of outpoints last m
asked last r n m b h e f = h ∙ ap (λ x. next_in x n) e ∙ ap (λ x. next_in last x) f
