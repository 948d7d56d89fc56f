-- What a comparison with a cell says of the place of a key.
use Rattle.std.proofs.Common.{◌≡◌, ℕ, suc, ◌+◌, ◌<◌, ◌≤◌, List, [], ◌∷◌, length, get_or, Some, None, Ok, Err, Ordering, Less, Equal, sym, refl, ap, ◌∙◌, subst, ⊎_elim, add-one, arith}
use Rattle.std.specs.Ordering.{MatchOrdering}
use Rattle.std.specs.List.{slice_get}
use Rattle.std.proofs.lemmas.List.{get_or_default}
use Rattle.std.proofs.lemmas.Bool.{cases_lt}
use Rattle.maps.specs.Maps.{Order, pick, place, look, after, Sorted}
use Rattle.maps.proofs.Laws.{place_at, look_place, look_past, after_present, after_absent}
use Rattle.maps.specs.Search.{Found}

module _ {K V : Type 0} (o : Order K) (k : K) (m : List (K × V)) (i : ℕ) (z : K × V) (inside : i < length m) where
  pub compared : (r : Ordering) → Sorted o m → r ≡ o.cmp k (get_or m i z).0 → MatchOrdering r (place o k m ≤ i) (place o k m ≡ i) (i < place o k m)
  compared r s e = subst (λ x. MatchOrdering x (place o k m ≤ i) (place o k m ≡ i) (i < place o k m)) (sym e) (place_at o k m i z s inside)

  pub less_here : Less ≡ o.cmp k (get_or m i z).0 → (d : K × V) → o.cmp k (get_or m i d).0 ≡ Less
  less_here e d = ap (λ x. o.cmp k x.0) (get_or_default m i d z inside) ∙ sym e

  pub found : Sorted o m → Equal ≡ o.cmp k (get_or m i z).0 → Found o k m (Ok i)
  found s e =
      let here = compared Equal s e in
      (sym here, inside, λ d. go here d)
    where
      go : place o k m ≡ i → (d : K × V) → look o k m ≡ Some (get_or m i d).1
      go h d =
          let tie : o.cmp k (get_or m i d).0 ≡ Equal = ap (λ x. o.cmp k x.0) (get_or_default m i d z inside) ∙ sym e in
          let within : place o k m < length m = omega arith in
          look_place o k m d within ∙ subst (λ j. pick (o.cmp k (get_or m j d).0) None (Some (get_or m j d).1) None ≡ Some (get_or m i d).1) (sym h) (ap (λ r. pick r None (Some (get_or m i d).1) None) tie)

pub missing : {K V : Type 0} (o : Order K) (k : K) (m : List (K × V)) (i : ℕ) → place o k m ≡ i → i ≤ length m → (i < length m → (d : K × V) → o.cmp k (get_or m i d).0 ≡ Less) → look o k m ≡ None
missing o k [] i p l h = refl
missing o k (x ∷ m) i p l h =
    ⊎_elim
    (λ b.
    let within : place o k (x ∷ m) < length (x ∷ m) = omega arith in
    look_place o k (x ∷ m) x within ∙ subst (λ j. pick (o.cmp k (get_or (x ∷ m) j x).0) None (Some (get_or (x ∷ m) j x).1) None ≡ None) (sym p) (ap (λ r. pick r None (Some (get_or (x ∷ m) i x).1) None) (h b x)))
    (λ b. look_past o k (x ∷ m) (omega arith))
    (cases_lt i (length (x ∷ m)))

module _ {K V : Type 0} (o : Order K) (k : K) (m : List (K × V)) where
  -- the first pair above a key that was found, and above one that was not
  pub above_found : (i : ℕ) → Sorted o m → Found o k m (Ok i) → after o k m ≡ slice_get m (i + 1)
  above_found i s f = go m refl f.1 f.2
    where
      go : (xs : List (K × V)) → xs ≡ m → i < length m → ((d : K × V) → look o k m ≡ Some (get_or m i d).1) → after o k m ≡ slice_get m (i + 1)
      go [] e l h = absurd (omega (arith, ap length e))
      go (x ∷ xs) e l h = after_present o k _ m s (h x) ∙ ap (λ j. slice_get m (suc j)) (sym f.0) ∙ ap (slice_get m) (sym (add-one i))

  pub above_missing : (i : ℕ) → Found o k m (Err i) → after o k m ≡ slice_get m i
  above_missing i f = after_absent o k m f.2 ∙ ap (slice_get m) (sym f.0)
