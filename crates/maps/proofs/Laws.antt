-- The laws of finite maps, over any total order of the keys.
use Rattle.std.proofs.Common.{◌≡◌, ℕ, zero, suc, ◌+◌, ◌<◌, ◌≤◌, List, [], ◌∷◌, length, get_or, Some, None, Option, Ordering, Less, Equal, Greater, sym, refl, ap, ◌∙◌, subst, arith}
use Rattle.std.specs.List.{insert as inserted, remove as removed, slice_get}
use Rattle.std.specs.Ordering.{MatchOrdering}
use Rattle.maps.specs.Maps.{Order, pick, look, insert, remove, Above, Sorted, total, write, one_if, place, after}

-- keys that the order tells apart differ
differs : {K : Type 0} (o : Order K) (q k : K) → (o.cmp q k ≡ Equal → ⊥) → q ≡ k → ⊥
differs o q k n e = n (subst (λ x. o.cmp q x ≡ Equal) e (o.itself q))

module _ {K V : Type 0} (o : Order K) where
  pub look_insert_same : (k : K) (v : V) (m : List (K × V)) → look o k (insert o k v m) ≡ Some v
  look_insert_same k v [] = let i = o.itself k in grind arith
  look_insert_same k v (p ∷ m) = let ih = look_insert_same k v m in let i = o.itself k in grind arith

  pub look_insert_other : (k q : K) (v : V) (m : List (K × V)) → Sorted o m → (q ≡ k → ⊥) → look o q (insert o k v m) ≡ look o q m
  look_insert_other k q v [] s n = let d = o.equal q k in grind arith
  look_insert_other k q v (p ∷ m) s n =
      let ih = look_insert_other k q v m s.1 n in
      let d = o.equal q k in
      let e = o.equal k p.0 in
      let t = o.trans q k p.0 in
      grind arith

  pub look_above : (k : K) (m : List (K × V)) → Above o k m → look o k m ≡ None
  look_above k [] h = refl
  look_above k (p ∷ m) h = grind arith

  pub above_less : (j k : K) (m : List (K × V)) → o.cmp j k ≡ Less → Above o k m → Above o j m
  above_less j k [] l h = tt
  above_less j k (p ∷ m) l h = (o.trans j k p.0 l h.0, above_less j k m l h.1)

  -- no key before all of a map's is in it
  pub look_below : (q k : K) (m : List (K × V)) → Above o k m → o.cmp q k ≡ Less → look o q m ≡ None
  look_below q k m a l = look_above q m (above_less q k m l a)

  pub above_insert : (j k : K) (v : V) (m : List (K × V)) → o.cmp j k ≡ Less → Above o j m → Above o j (insert o k v m)
  above_insert j k v [] l h = (l, tt)
  above_insert j k v (p ∷ m) l h = let ih = above_insert j k v m l h.1 in grind arith

  pub sorted_insert : (k : K) (v : V) (m : List (K × V)) → Sorted o m → Sorted o (insert o k v m)
  sorted_insert k v [] s = (tt, tt)
  sorted_insert k v (p ∷ m) s =
      let ih = sorted_insert k v m s.1 in
      let a = above_insert p.0 k v m in
      let b = above_less k p.0 m in
      let f = o.flip p.0 k in
      let e = o.equal k p.0 in
      grind arith

  pub look_remove_same : (k : K) (m : List (K × V)) → Sorted o m → look o k (remove o k m) ≡ None
  look_remove_same k [] s = refl
  look_remove_same k (p ∷ m) s =
      let ih = look_remove_same k m s.1 in
      let e = o.equal k p.0 in
      let a = look_above p.0 m s.0 in
      grind arith

  pub look_remove_other : (k q : K) (m : List (K × V)) → Sorted o m → (q ≡ k → ⊥) → look o q (remove o k m) ≡ look o q m
  look_remove_other k q [] s n = refl
  look_remove_other k q (p ∷ m) s n =
      let ih = look_remove_other k q m s.1 n in
      let e = o.equal k p.0 in
      let d = o.equal q p.0 in
      let a = look_below q p.0 m s.0 in
      grind arith

  pub above_remove : (j k : K) (m : List (K × V)) → Above o j m → Above o j (remove o k m)
  above_remove j k [] h = tt
  above_remove j k (p ∷ m) h = let ih = above_remove j k m h.1 in grind arith

  pub sorted_remove : (k : K) (m : List (K × V)) → Sorted o m → Sorted o (remove o k m)
  sorted_remove k [] s = tt
  sorted_remove k (p ∷ m) s =
      let ih = sorted_remove k m s.1 in
      let a = above_remove p.0 k m s.0 in
      grind arith

  pub length_insert : (k : K) (v : V) (m : List (K × V)) → look o k m ≡ None → length (insert o k v m) ≡ length m + 1
  length_insert k v [] h = refl
  length_insert k v (p ∷ m) h = let ih = length_insert k v m in grind arith

  pub length_remove : (k : K) (v : V) (m : List (K × V)) → look o k m ≡ Some v → length (remove o k m) + 1 ≡ length m
  length_remove k v [] h = grind arith
  length_remove k v (p ∷ m) h = let ih = length_remove k v m in grind arith

  pub remove_absent : (k : K) (m : List (K × V)) → look o k m ≡ None → remove o k m ≡ m
  remove_absent k [] h = refl
  remove_absent k (p ∷ m) h = let ih = remove_absent k m in grind arith

  pub total_insert : (f : V → ℕ) (k : K) (v : V) (m : List (K × V)) → look o k m ≡ None → total f (insert o k v m) ≡ f v + total f m
  total_insert f k v [] h = refl
  total_insert f k v (p ∷ m) h = let ih = total_insert f k v m in grind arith

  pub total_remove : (f : V → ℕ) (k : K) (v : V) (m : List (K × V)) → look o k m ≡ Some v → total f m ≡ f v + total f (remove o k m)
  total_remove f k v [] h = grind arith
  total_remove f k v (p ∷ m) h = let ih = total_remove f k v m in grind arith

  pub remove_insert : (k : K) (v : V) (m : List (K × V)) → look o k m ≡ None → remove o k (insert o k v m) ≡ m
  remove_insert k v [] h = let i = o.itself k in grind arith
  remove_insert k v (p ∷ m) h = let ih = remove_insert k v m in let i = o.itself k in grind arith

  pub insert_above : (k : K) (v : V) (m : List (K × V)) → Above o k m → insert o k v m ≡ (k, v) ∷ m
  insert_above k v [] h = refl
  insert_above k v (p ∷ m) h = grind arith

  -- ---- maps with equal look-ups are equal

  pub look_head : (p : K × V) (m : List (K × V)) → look o p.0 (p ∷ m) ≡ Some p.1
  look_head p m = let i = o.itself p.0 in grind arith

  -- where the first keys of two maps differ, one of the maps lacks a key of the other
  pub less_absent : (k : K) (q : K × V) (n : List (K × V)) → o.cmp k q.0 ≡ Less → look o k (q ∷ n) ≡ None
  less_absent k q n l = grind arith

  tail_look : (p : K × V) (m : List (K × V)) (k : K) → Above o p.0 m → look o k m ≡ pick (o.cmp k p.0) None None (look o k (p ∷ m))
  tail_look p m k a =
      let e = o.equal k p.0 in
      let l = look_below k p.0 m a in
      let z = look_above p.0 m a in
      grind arith

  pub same_maps : (m n : List (K × V)) → Sorted o m → Sorted o n → ((k : K) → look o k m ≡ look o k n) → m ≡ n
  same_maps [] [] s t h = refl
  same_maps [] (q ∷ n) s t h = let a = h q.0 in let b = look_head q n in grind arith
  same_maps (p ∷ m) [] s t h = let a = h p.0 in let b = look_head p m in grind arith
  same_maps (p ∷ m) (q ∷ n) s t h =
      let a = h p.0 in
      let b = look_head p m in
      let c = h q.0 in
      let d = look_head q n in
      let l = less_absent p.0 q n in
      let g = less_absent q.0 p m in
      let f = o.flip q.0 p.0 in
      let key : p.0 ≡ q.0 = let e = o.equal p.0 q.0 in grind arith in
      let value : p.1 ≡ q.1 = let i = o.itself q.0 in grind arith in
      let head : p ≡ q = λ i. (key i, value i) in
      let rest : m ≡ n = same_maps m n s.1 t.1 (λ k. tail_look p m k s.0 ∙ (let u = h k in let w = o.flip in cc) ∙ sym (tail_look q n k t.0)) in
      cc

  -- ---- by look-ups

  -- by the comparison of a key with the one that was written
  by_key : (q k : K) (x a b : Option V) → (q ≡ k → x ≡ a) → ((q ≡ k → ⊥) → x ≡ b) → x ≡ pick (o.cmp q k) b a b
  by_key q k x a b same other = go (o.cmp q k) refl
    where
      go : (r : Ordering) → o.cmp q k ≡ r → x ≡ pick r b a b
      go Less e = other (differs o q k (λ z. grind arith))
      go Equal e = same (o.equal q k e)
      go Greater e = other (differs o q k (λ z. grind arith))

  pub look_insert : (q k : K) (v : V) (m : List (K × V)) → Sorted o m → look o q (insert o k v m) ≡ pick (o.cmp q k) (look o q m) (Some v) (look o q m)
  look_insert q k v m s = by_key q k _ _ _ (λ e. rw e (look_insert_same k v m)) (look_insert_other k q v m s)

  pub look_remove : (q k : K) (m : List (K × V)) → Sorted o m → look o q (remove o k m) ≡ pick (o.cmp q k) (look o q m) None (look o q m)
  look_remove q k m s = by_key q k _ _ _ (λ e. rw e (look_remove_same k m s)) (look_remove_other k q m s)

  pub insert_remove : (k : K) (v : V) (m : List (K × V)) → Sorted o m → look o k m ≡ Some v → insert o k v (remove o k m) ≡ m
  insert_remove k v m s h =
      same_maps _ _ (sorted_insert k v _ (sorted_remove k m s)) s
      (λ q. let e = o.equal q k in let a = look_insert q k v (remove o k m) (sorted_remove k m s) in let b = look_remove q k m s in grind arith)

  pub insert_comm : (j k : K) (u v : V) (m : List (K × V)) → Sorted o m → (j ≡ k → ⊥) → insert o j u (insert o k v m) ≡ insert o k v (insert o j u m)
  insert_comm j k u v m s n =
      same_maps _ _ (sorted_insert j u _ (sorted_insert k v m s)) (sorted_insert k v _ (sorted_insert j u m s))
      (λ q.
      let a = look_insert q j u (insert o k v m) (sorted_insert k v m s) in
      let b = look_insert q k v m s in
      let c = look_insert q k v (insert o j u m) (sorted_insert j u m s) in
      let d = look_insert q j u m s in
      let e = o.equal q k in
      let f = o.equal q j in
      grind arith)

  -- ---- a value written, or nothing

  pub sorted_write : (k : K) (w : Option V) (m : List (K × V)) → Sorted o m → Sorted o (write o k w m)
  sorted_write k None m s = sorted_remove k m s
  sorted_write k (Some v) m s = sorted_insert k v m s

  pub look_write : (q k : K) (w : Option V) (m : List (K × V)) → Sorted o m → look o q (write o k w m) ≡ pick (o.cmp q k) (look o q m) w (look o q m)
  look_write q k None m s = look_remove q k m s
  look_write q k (Some v) m s = look_insert q k v m s

  pub length_write : (k : K) (w : Option V) (m : List (K × V)) → length (write o k w m) + one_if (look o k m) ≡ length m + one_if w
  length_write k None [] = refl
  length_write k (Some v) [] = refl
  length_write k None (p ∷ m) = let ih = length_write k None m in grind arith
  length_write k (Some v) (p ∷ m) = let ih = length_write k (Some v) m in grind arith

  -- ---- places

  pub place_within : (k : K) (m : List (K × V)) → place o k m ≤ length m
  place_within k [] = omega arith
  place_within k (p ∷ m) = let ih = place_within k m in grind arith

  pub insert_place : (k : K) (v : V) (m : List (K × V)) → look o k m ≡ None → insert o k v m ≡ inserted m (place o k m) (k, v)
  insert_place k v [] h = refl
  insert_place k v (p ∷ m) h = let ih = insert_place k v m in grind arith

  pub remove_place : (k : K) (v : V) (m : List (K × V)) → look o k m ≡ Some v → remove o k m ≡ removed m (place o k m)
  remove_place k v [] h = grind arith
  remove_place k v (p ∷ m) h = let ih = remove_place k v m in grind arith

  pub above_at : (k : K) (m : List (K × V)) (i : ℕ) (d : K × V) → Above o k m → i < length m → o.cmp k (get_or m i d).0 ≡ Less
  above_at k [] i d a l = absurd (omega arith)
  above_at k (p ∷ m) zero d a l = a.0
  above_at k (p ∷ m) (suc i) d a l = above_at k m i d a.1 (omega arith)

  -- what the comparison with the i-th key says of the place
  pub place_at : (k : K) (m : List (K × V)) (i : ℕ) (d : K × V) → Sorted o m → i < length m → MatchOrdering (o.cmp k (get_or m i d).0) (place o k m ≤ i) (place o k m ≡ i) (i < place o k m)
  place_at k [] i d s l = absurd (omega arith)
  place_at k (p ∷ m) zero d s l = grind arith
  place_at k (p ∷ m) (suc i) d s l =
      let within : i < length m = omega arith in
      let ih = place_at k m i d s.1 within in
      let a = above_at p.0 m i d s.0 within in
      let t = o.trans k p.0 (get_or m i d).0 in
      let e = o.equal k p.0 in
      grind arith

  -- what stands at the place is the key's pair, if there is one
  pub look_place : (k : K) (m : List (K × V)) (d : K × V) → place o k m < length m → look o k m ≡ pick (o.cmp k (get_or m (place o k m) d).0) None (Some (get_or m (place o k m) d).1) None
  look_place k [] d l = absurd (omega arith)
  look_place k (p ∷ m) d l = let ih = look_place k m d in grind arith

  pub look_past : (k : K) (m : List (K × V)) → place o k m ≡ length m → look o k m ≡ None
  look_past k [] h = refl
  look_past k (p ∷ m) h = let ih = look_past k m in grind arith

  -- ---- the next pair

  pub after_above : (k : K) (m : List (K × V)) → Above o k m → after o k m ≡ slice_get m 0
  after_above k [] a = refl
  after_above k (p ∷ m) a = grind arith

  pub after_absent : (k : K) (m : List (K × V)) → look o k m ≡ None → after o k m ≡ slice_get m (place o k m)
  after_absent k [] h = refl
  after_absent k (p ∷ m) h = let ih = after_absent k m in grind arith

  pub after_present : (k : K) (v : V) (m : List (K × V)) → Sorted o m → look o k m ≡ Some v → after o k m ≡ slice_get m (suc (place o k m))
  after_present k v [] s h = grind arith
  after_present k v (p ∷ m) s h =
      let ih = after_present k v m s.1 in
      let e = o.equal k p.0 in
      let a = after_above p.0 m s.0 in
      let g : k ≡ p.0 → after o k m ≡ after o p.0 m = λ x. ap (λ y. after o y m) x in
      grind arith
