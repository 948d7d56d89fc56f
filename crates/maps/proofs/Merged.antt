-- The next pair of entries over a map.
use Rattle.std.proofs.Common.{◌≡◌, ℕ, zero, suc, ◌+◌, ◌<◌, List, [], ◌∷◌, length, get_or, Some, None, Option, Ordering, Less, Equal, Greater, sym, refl, ap, ◌∙◌, subst, add-one, arith}
use Rattle.std.specs.List.{slice_get}
use Rattle.maps.specs.Maps.{Order, look, Sorted, after, next_of, Beyond, Least}
use Rattle.maps.proofs.Laws.{after_above, above_at, less_absent}
use Rattle.maps.specs.Layers.{Marks, laid}
use Rattle.maps.proofs.Layered.{sorted_laid, look_laid}

past : {K : Type 0} (o : Order K) (k q x : K) → (o.cmp k x ≡ Less → ⊥) → o.cmp k q ≡ Less → o.cmp q x ≡ Greater
past o k q x n l =
    let e = o.equal k x in
    let a = o.flip x k in
    let b = o.flip q x in
    let t = o.trans x k q in
    let u : k ≡ x → o.cmp x q ≡ Less = λ z. subst (λ y. o.cmp y q ≡ Less) z l in
    grind arith

module _ {K V : Type 0} (o : Order K) where
  after_none : (k : K) (m : List (K × V)) → Sorted o m → after o k m ≡ None → (q : K) → o.cmp k q ≡ Less → look o q m ≡ None
  after_none k [] s h q l = refl
  after_none k (p ∷ m) s h q l =
      let ih = after_none k m s.1 in
      let jh = λ (z : after o k m ≡ None). ih z q l in
      let e = o.equal q p.0 in
      let f = o.equal k p.0 in
      grind arith

  skip : (k : K) (x p : K × V) (m : List (K × V)) → (o.cmp k x.0 ≡ Less → ⊥) → Least o (Some k) m p → Least o (Some k) (x ∷ m) p
  skip k x p m n h = record {
    there = let a = past o k p.0 x.0 n h.above in let b = h.there in grind arith;
    above = h.above;
    least = λ q z l. let a = past o k q x.0 n z in let b = h.least q z l in grind arith;
  }

  after_some : (k : K) (m : List (K × V)) (p : K × V) → Sorted o m → after o k m ≡ Some p → Least o (Some k) m p
  after_some k [] p s h = absurd cc
  after_some k (x ∷ m) p s h = go (λ z. after_some k m p s.1 z) (o.cmp k x.0) refl
    where
      go : (after o k m ≡ Some p → Least o (Some k) m p) → (r : Ordering) → o.cmp k x.0 ≡ r → Least o (Some k) (x ∷ m) p
      go ih Less e =
          let same : x ≡ p = grind arith in
          subst (Least o (Some k) (x ∷ m)) same (record { there = let i = o.itself x.0 in grind arith; above = e; least = λ q b l. less_absent o q x m l })
      go ih Equal e = skip k x p m (λ z. grind arith) (ih (grind arith))
      go ih Greater e = skip k x p m (λ z. grind arith) (ih (grind arith))

  pub next_some : (from : Option K) (m : List (K × V)) (p : K × V) → Sorted o m → next_of o from m ≡ Some p → Least o from m p
  next_some None [] p s h = absurd cc
  next_some None (x ∷ m) p s h =
      let e : x ≡ p = cc in
      subst (Least o None (x ∷ m)) e (record { there = let i = o.itself x.0 in grind arith; above = tt; least = λ q b l. less_absent o q x m l })
  next_some (Some k) m p s h = after_some k m p s h

  pub next_none : (from : Option K) (m : List (K × V)) → Sorted o m → next_of o from m ≡ None → (q : K) → Beyond o from q → look o q m ≡ None
  next_none None [] s h q b = refl
  next_none None (x ∷ m) s h q b = absurd cc
  next_none (Some k) m s h q b = after_none k m s h q b

  pub none_is : (from : Option K) (m : List (K × V)) → Sorted o m → ((q : K) → Beyond o from q → look o q m ≡ None) → next_of o from m ≡ None
  none_is from m s h = go (next_of o from m) refl
    where
      go : (r : Option (K × V)) → next_of o from m ≡ r → r ≡ None
      go None e = refl
      go (Some p) e = let l = next_some from m p s e in let a = h p.0 l.above in let b = l.there in absurd cc

  pub is_next : (from : Option K) (m : List (K × V)) (p : K × V) → Sorted o m → Least o from m p → next_of o from m ≡ Some p
  is_next from m p s h = go (next_of o from m) refl
    where
      same : (x : K × V) → Least o from m x → (r : Ordering) → o.cmp x.0 p.0 ≡ r → x ≡ p
      same x l Less e = let a = h.least x.0 l.above e in let b = l.there in absurd cc
      same x l Equal e =
          let key = o.equal x.0 p.0 e in
          let a = l.there in
          let b = h.there in
          let value : x.1 ≡ p.1 = cc in
          λ i. (key i, value i)
      same x l Greater e =
          let f = o.flip p.0 x.0 in
          let less : o.cmp p.0 x.0 ≡ Less = grind arith in
          let a = l.least p.0 h.above less in
          let b = h.there in
          absurd cc

      go : (r : Option (K × V)) → next_of o from m ≡ r → r ≡ Some p
      go None e = let a = next_none from m s e p.0 h.above in let b = h.there in absurd cc
      go (Some x) e = let l = next_some from m x s e in ap Some (same x l (o.cmp x.0 p.0) refl)

  -- the pair after the i-th
  pub next_at : (m : List (K × V)) (i : ℕ) (d : K × V) → Sorted o m → i < length m → next_of o (Some (get_or m i d).0) m ≡ slice_get m (i + 1)
  next_at m i d s l = subst (λ n. after o (get_or m i d).0 m ≡ slice_get m n) (sym (add-one i)) (go m i s l)
    where
      go : (m : List (K × V)) (i : ℕ) → Sorted o m → i < length m → after o (get_or m i d).0 m ≡ slice_get m (suc i)
      go [] i s l = absurd (omega arith)
      go (x ∷ m) zero s l = let a = after_above o x.0 m s.0 in let e = o.itself x.0 in grind arith
      go (x ∷ m) (suc i) s l =
          let within : i < length m = omega arith in
          let ih = go m i s.1 within in
          let a = above_at o x.0 m i d s.0 within in
          let f = o.flip (get_or m i d).0 x.0 in
          grind arith

between : {K : Type 0} (o : Order K) (q e p : K) → o.cmp q e ≡ Less → (o.cmp p e ≡ Less → ⊥) → o.cmp q p ≡ Less
between o q e p l n =
    let a = o.equal p e in
    let f = o.flip e p in
    let t = o.trans q e p in
    let u : p ≡ e → o.cmp q p ≡ Less = λ z. subst (λ y. o.cmp q y ≡ Less) (sym z) l in
    grind arith

further : {K : Type 0} (o : Order K) (from : Option K) (p q : K) → Beyond o from p → o.cmp p q ≡ Less → Beyond o from q
further o None p q a l = tt
further o (Some f) p q a l = o.trans f p q a l

module _ {K V W : Type 0} (o : Order K) (k : Marks V W) (from : Option K) (es : List (K × W)) (m : List (K × V)) (t : Sorted o es) (s : Sorted o m) where
  -- no entry up to the next pair below
  pub next_below : (b : Option (K × V)) → next_of o from m ≡ b → ((q : K) → Beyond o from q → look o q es ≡ None) → next_of o from (laid o k es m) ≡ b
  next_below None h n = none_is o from _ (sorted_laid o k es m s) (λ q z. look_laid o k q es m t s ∙ (let a = n q z in let b = next_none o from m s h q z in cc))
  next_below (Some p) h n =
      let a = next_some o from m p s h in
      is_next o from _ p (sorted_laid o k es m s) (record { there = look_laid o k p.0 es m t s ∙ (let z = n p.0 a.above in let y = a.there in cc); above = a.above; least = λ q z x. look_laid o k q es m t s ∙ (let u = n q z in let v = a.least q z x in cc) })

  pub next_before : (p : K × V) (e : K × W) → next_of o from m ≡ Some p → next_of o from es ≡ Some e → o.cmp p.0 e.0 ≡ Less → next_of o from (laid o k es m) ≡ Some p
  next_before p e h g l =
      let a = next_some o from m p s h in
      let b = next_some o from es e t g in
      is_next o from _ p (sorted_laid o k es m s) (record { there = look_laid o k p.0 es m t s ∙ (let z = b.least p.0 a.above l in let y = a.there in cc); above = a.above; least = λ q z x. look_laid o k q es m t s ∙ (let u = b.least q z (o.trans q p.0 e.0 x l) in let v = a.least q z x in cc) })

  -- a entry up to it
  pub next_entry : (e : K × W) (v : V) → next_of o from es ≡ Some e → k.value e.1 ≡ Some v → ((q : K) → Beyond o from q → o.cmp q e.0 ≡ Less → look o q m ≡ None) → next_of o from (laid o k es m) ≡ Some (e.0, v)
  next_entry e v g y n =
      let b = next_some o from es e t g in
      is_next o from _ (e.0, v) (sorted_laid o k es m s) (record { there = look_laid o k e.0 es m t s ∙ (let z = b.there in cc); above = b.above; least = λ q z x. look_laid o k q es m t s ∙ (let u = b.least q z x in let v = n q z x in cc) })

  -- a entry that there is nothing
  pub next_spent : (e : K × W) → next_of o from es ≡ Some e → k.value e.1 ≡ None → ((q : K) → Beyond o from q → o.cmp q e.0 ≡ Less → look o q m ≡ None) → next_of o from (laid o k es m) ≡ next_of o (Some e.0) (laid o k es m)
  next_spent e g y n = go (next_of o (Some e.0) (laid o k es m)) refl
    where
      sl : Sorted o (laid o k es m)
      sl = sorted_laid o k es m s

      b : Least o from es e
      b = next_some o from es e t g

      -- up to the entry there is nothing
      none : (q : K) → Beyond o from q → (r : Ordering) → o.cmp q e.0 ≡ r → (o.cmp e.0 q ≡ Less → look o q (laid o k es m) ≡ None) → look o q (laid o k es m) ≡ None
      none q z Less c f = look_laid o k q es m t s ∙ (let u = b.least q z c in let v = n q z c in cc)
      none q z Equal c f = look_laid o k q es m t s ∙ (let key = o.equal q e.0 c in let u = b.there in cc)
      none q z Greater c f = f (let a = o.flip e.0 q in grind arith)

      go : (r : Option (K × V)) → next_of o (Some e.0) (laid o k es m) ≡ r → next_of o from (laid o k es m) ≡ r
      go None h = none_is o from _ sl (λ q z. none q z (o.cmp q e.0) refl (next_none o (Some e.0) _ sl h q))
      go (Some p) h =
          let a = next_some o (Some e.0) _ p sl h in
          is_next o from _ p sl (record { there = a.there; above = further o from e.0 p.0 b.above a.above; least = λ q z x. none q z (o.cmp q e.0) refl (λ w. a.least q w x) })

  -- nothing below before a entry's key
  pub none_before : (b : Option (K × V)) (e : K) → next_of o from m ≡ b → ((p : K × V) → b ≡ Some p → o.cmp p.0 e ≡ Less → ⊥) → (q : K) → Beyond o from q → o.cmp q e ≡ Less → look o q m ≡ None
  none_before None e h n q z l = next_none o from m s h q z
  none_before (Some p) e h n q z l = (next_some o from m p s h).least q z (between o q e p.0 l (n p refl))
