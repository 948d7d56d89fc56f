-- The laws of entries over a map.
use Rattle.std.proofs.Common.{◌≡◌, ℕ, ◌<◌, ◌≤◌, Bool, true, false, cond, not, ◌&&◌, List, [], ◌∷◌, length, get_or, set, Some, None, Option, Ordering, Less, Equal, Greater, sym, refl, ap, ◌∙◌, subst, arith}
use Rattle.maps.specs.Maps.{Order, pick, look, insert, remove, Sorted, write, place}
use Rattle.maps.proofs.Laws.{look_insert, look_remove, look_write, sorted_insert, sorted_remove, sorted_write, same_maps, look_above, look_below, look_head, length_insert, length_remove}
use Rattle.maps.specs.Layers.{Marks, said, Agrees, laid, Flags, takes, put_one, puts, spilled, One, Fits}

-- ---- a part of a map is no longer than it
module _ {K V : Type 0} (o : Order K) where
  abbrev pub Within : List (K × V) → List (K × V) → Type 0
  Within m n = (q : K) (v : V) → look o q m ≡ Some v → look o q n ≡ Some v

  tail_within : (p : K × V) (m n : List (K × V)) → Sorted o (p ∷ m) → Sorted o n → Within (p ∷ m) n → Within m (remove o p.0 n)
  tail_within p m n s t h q v e =
      let a = look_remove o q p.0 n t in
      let b = h q v in
      let z = look_above o p.0 m s.0 in
      let l = look_below o q p.0 m s.0 in
      let d = o.equal q p.0 in
      grind arith

  pub length_within : (m n : List (K × V)) → Sorted o m → Sorted o n → Within m n → length m ≤ length n
  length_within [] n s t h = omega arith
  length_within (p ∷ m) n s t h =
      let found = h p.0 p.1 (look_head o p m) in
      let ih = length_within m (remove o p.0 n) s.1 (sorted_remove o p.0 n t) (tail_within p m n s t h) in
      omega (arith, length_remove o p.0 p.1 n found)

  -- the value at a key that is there is written over at its place
  pub set_place : (k : K) (v old : V) (m : List (K × V)) → look o k m ≡ Some old → set m (place o k m) (k, v) ≡ insert o k v m
  set_place k v old [] h = grind arith
  set_place k v old (p ∷ m) h = let ih = set_place k v old m in grind arith

  -- the key at its place
  pub key_place : (k : K) (v : V) (m : List (K × V)) (d : K × V) → look o k m ≡ Some v → (get_or m (place o k m) d).0 ≡ k
  key_place k v [] d h = grind arith
  key_place k v (p ∷ m) d h = let ih = key_place k v m d in let e = o.equal k p.0 in grind arith

module _ {K V W : Type 0} (o : Order K) (k : Marks V W) where
  pub sorted_laid : (es : List (K × W)) (m : List (K × V)) → Sorted o m → Sorted o (laid o k es m)
  sorted_laid [] m s = s
  sorted_laid (e ∷ es) m s = sorted_write o e.0 (k.value e.1) _ (sorted_laid es m s)

  pub look_laid : (q : K) (es : List (K × W)) (m : List (K × V)) → Sorted o es → Sorted o m → look o q (laid o k es m) ≡ said k (look o q es) (look o q m)
  look_laid q [] m t s = refl
  look_laid q (e ∷ es) m t s =
      let ih = look_laid q es m t.1 s in
      let a = look_write o q e.0 (k.value e.1) (laid o k es m) (sorted_laid es m s) in
      let b = look_below o q e.0 es t.0 in
      grind arith

  -- ---- one entry written
  pub laid_insert : (q : K) (w : W) (es : List (K × W)) (m : List (K × V)) → Sorted o es → Sorted o m → laid o k (insert o q w es) m ≡ write o q (k.value w) (laid o k es m)
  laid_insert q w es m t s =
      same_maps o _ _ (sorted_laid (insert o q w es) m s) (sorted_write o q (k.value w) _ (sorted_laid es m s))
      (λ p.
      let a = look_laid p (insert o q w es) m (sorted_insert o q w es t) s in
      let b = look_insert o p q w es t in
      let c = look_write o p q (k.value w) (laid o k es m) (sorted_laid es m s) in
      let d = look_laid p es m t s in
      grind arith)

  -- a entry that says what is below changes nothing
  pub laid_clean : (q : K) (w : W) (es : List (K × W)) (m : List (K × V)) → Sorted o es → Sorted o m → look o q es ≡ None → look o q m ≡ k.value w → laid o k (insert o q w es) m ≡ laid o k es m
  laid_clean q w es m t s n h =
      same_maps o _ _ (sorted_laid (insert o q w es) m s) (sorted_laid es m s)
      (λ p.
      let a = look_laid p (insert o q w es) m (sorted_insert o q w es t) s in
      let b = look_insert o p q w es t in
      let d = look_laid p es m t s in
      let e = o.equal p q in
      grind arith)

  -- a entry dropped where there is nothing below
  pub laid_remove : (q : K) (es : List (K × W)) (m : List (K × V)) → Sorted o es → Sorted o m → look o q m ≡ None → laid o k (remove o q es) m ≡ remove o q (laid o k es m)
  laid_remove q es m t s n =
      same_maps o _ _ (sorted_laid (remove o q es) m s) (sorted_remove o q _ (sorted_laid es m s))
      (λ p.
      let a = look_laid p (remove o q es) m (sorted_remove o q es t) s in
      let b = look_remove o p q es t in
      let c = look_remove o p q (laid o k es m) (sorted_laid es m s) in
      let d = look_laid p es m t s in
      let e = o.equal p q in
      grind arith)

  -- ---- the flags
  pub flags_insert : (q : K) (w : W) (es : List (K × W)) (m : List (K × V)) → Sorted o es → Flags o k es m → Agrees k w (look o q m) → Flags o k (insert o q w es) m
  flags_insert q w es m t f a p x h = go (o.cmp p q) refl
    where
      seen : look o p (insert o q w es) ≡ pick (o.cmp p q) (look o p es) (Some w) (look o p es)
      seen = look_insert o p q w es t

      go : (r : Ordering) → o.cmp p q ≡ r → Agrees k x (look o p m)
      go Less e = f p x (let u = seen in grind arith)
      go Equal e =
          let same : x ≡ w = let u = seen in grind arith in
          let key = o.equal p q e in
          let P : W → K → Type 0 = λ y z. Agrees k y (look o z m) in
          subst (λ y. P y p) (sym same) (subst (P w) (sym key) a)
      go Greater e = f p x (let u = seen in grind arith)

  pub flags_remove : (q : K) (es : List (K × W)) (m : List (K × V)) → Sorted o es → Flags o k es m → Flags o k (remove o q es) m
  flags_remove q es m t f p x h = f p x (let a = look_remove o p q es t in grind arith)

  pub flags_none : (m : List (K × V)) → Flags o k [] m
  flags_none m q w h = absurd cc

  -- ---- a spill
  sorted_taken : (p : K) (b : Bool) (m : List (K × V)) → Sorted o m → Sorted o (cond b (remove o p m) m)
  sorted_taken p true m s = sorted_remove o p m s
  sorted_taken p false m s = s

  pub sorted_takes : (es : List (K × W)) (m : List (K × V)) → Sorted o m → Sorted o (takes o k es m)
  sorted_takes [] m s = s
  sorted_takes (e ∷ es) m s = sorted_takes es _ (sorted_taken e.0 (k.dirty e.1 && not (k.fresh e.1)) m s)

  sorted_one : (b : Bool) (q : K) (x : Option V) (m : List (K × V)) → Sorted o m → Sorted o (put_one o k b q x m)
  sorted_one false q x m s = s
  sorted_one true q None m s = s
  sorted_one true q (Some v) m s = sorted_insert o q v m s

  pub sorted_puts : (es : List (K × W)) (m : List (K × V)) → Sorted o m → Sorted o (puts o k es m)
  sorted_puts [] m s = s
  sorted_puts (e ∷ es) m s = sorted_puts es _ (sorted_one (k.dirty e.1) e.0 (k.value e.1) m s)

  -- what a take leaves of one key's value, and a put
  abbrev taken : Bool → Bool → Option V → Option V
  taken true false x = None
  taken true true x = x
  taken false f x = x

  abbrev after_takes : Option W → Option V → Option V
  after_takes None x = x
  after_takes (Some w) x = taken (k.dirty w) (k.fresh w) x

  abbrev laid_one : Bool → Option V → Option V → Option V
  laid_one false y x = x
  laid_one true None x = x
  laid_one true (Some v) x = Some v

  abbrev after_puts : Option W → Option V → Option V
  after_puts None x = x
  after_puts (Some w) x = laid_one (k.dirty w) (k.value w) x

  look_taken : (q p : K) (d f : Bool) (m : List (K × V)) → Sorted o m → look o q (cond (d && not f) (remove o p m) m) ≡ pick (o.cmp q p) (look o q m) (taken d f (look o q m)) (look o q m)
  look_taken q p true false m s = look_remove o q p m s
  look_taken q p true true m s = grind arith
  look_taken q p false f m s = grind arith

  look_one : (q p : K) (d : Bool) (y : Option V) (m : List (K × V)) → Sorted o m → look o q (put_one o k d p y m) ≡ pick (o.cmp q p) (look o q m) (laid_one d y (look o q m)) (look o q m)
  look_one q p false y m s = grind arith
  look_one q p true None m s = grind arith
  look_one q p true (Some v) m s = look_insert o q p v m s

  pub look_takes : (q : K) (es : List (K × W)) (m : List (K × V)) → Sorted o es → Sorted o m → look o q (takes o k es m) ≡ after_takes (look o q es) (look o q m)
  look_takes q [] m t s = refl
  look_takes q (e ∷ es) m t s =
      let ih = look_takes q es _ t.1 (sorted_taken e.0 (k.dirty e.1 && not (k.fresh e.1)) m s) in
      let a = look_taken q e.0 (k.dirty e.1) (k.fresh e.1) m s in
      let b = look_below o q e.0 es t.0 in
      let c = look_above o e.0 es t.0 in
      let d = o.equal q e.0 in
      grind arith

  pub look_puts : (q : K) (es : List (K × W)) (m : List (K × V)) → Sorted o es → Sorted o m → look o q (puts o k es m) ≡ after_puts (look o q es) (look o q m)
  look_puts q [] m t s = refl
  look_puts q (e ∷ es) m t s =
      let ih = look_puts q es _ t.1 (sorted_one (k.dirty e.1) e.0 (k.value e.1) m s) in
      let a = look_one q e.0 (k.dirty e.1) (k.value e.1) m s in
      let b = look_below o q e.0 es t.0 in
      let c = look_above o e.0 es t.0 in
      let d = o.equal q e.0 in
      grind arith

  one_spilled : (w : W) (d f : Bool) (y x : Option V) → k.dirty w ≡ d → k.fresh w ≡ f → k.value w ≡ y → Agrees k w x → laid_one d y (taken d f x) ≡ y
  one_spilled w false f y x a b c g = g.0 a ∙ c
  one_spilled w true true None x a b c g = g.1 b
  one_spilled w true true (Some v) x a b c g = refl
  one_spilled w true false None x a b c g = refl
  one_spilled w true false (Some v) x a b c g = refl

  pub spilled_is : (es : List (K × W)) (m : List (K × V)) → Sorted o es → Sorted o m → Flags o k es m → spilled o k es m ≡ laid o k es m
  spilled_is es m t s f =
      let u = sorted_takes es m s in
      same_maps o _ _ (sorted_puts es _ u) (sorted_laid es m s) (λ q. look_puts q es _ t u ∙ ap (after_puts (look o q es)) (look_takes q es m t s) ∙ go q (look o q es) refl ∙ sym (look_laid q es m t s))
    where
      go : (q : K) (x : Option W) → look o q es ≡ x → after_puts x (after_takes x (look o q m)) ≡ said k x (look o q m)
      go q None e = refl
      go q (Some w) e = one_spilled w (k.dirty w) (k.fresh w) (k.value w) (look o q m) refl refl refl (f q w e)

  -- ---- no put of a spill is refused
  grows : (e : K × W) (m n : List (K × V)) (v : V) → Sorted o m → Within o m n → look o e.0 n ≡ Some v → Within o (insert o e.0 v m) n
  grows e m n v s h f q x g =
      let a = look_insert o q e.0 v m s in
      let b = h q x in
      let c = o.equal q e.0 in
      grind arith

  -- each dirty value of the entries is in n and not in m
  abbrev Wanting : List (K × W) → List (K × V) → List (K × V) → Type 0
  Wanting es m n = (q : K) (w : W) (v : V) → look o q es ≡ Some w → k.dirty w ≡ true → k.value w ≡ Some v → (look o q m ≡ None) × (look o q n ≡ Some v)

  tail_found : (q : K) (w : W) (e : K × W) (es : List (K × W)) → Sorted o (e ∷ es) → look o q es ≡ Some w → (look o q (e ∷ es) ≡ Some w) × (o.cmp q e.0 ≡ Equal → ⊥)
  tail_found q w e es t h =
      let b = look_below o q e.0 es t.0 in
      let c = look_above o e.0 es t.0 in
      let d = o.equal q e.0 in
      (grind arith, λ z. grind arith)

  pub fits : (most : ℕ) (es : List (K × W)) (m n : List (K × V)) → Sorted o es → Sorted o m → Sorted o n → Within o m n → length n ≤ most → Wanting es m n → Fits o k most es m
  fits most [] m n t s u h l a = tt
  fits most (e ∷ es) m n t s u h l a = go (λ z s h a. fits most es z n t.1 s u h l a) (k.dirty e.1) (k.value e.1) refl refl
    where
      rest : Wanting es m n
      rest q w v f d x = a q w v (tail_found q w e es t f).0 d x

      go : ((z : List (K × V)) → Sorted o z → Within o z n → Wanting es z n → Fits o k most es z) → (d : Bool) (y : Option V) → k.dirty e.1 ≡ d → k.value e.1 ≡ y → One o k most d e.0 y m × Fits o k most es (put_one o k d e.0 y m)
      go ih false y p r = (tt, ih m s h rest)
      go ih true None p r = (tt, ih m s h rest)
      go ih true (Some v) p r =
          let both = a e.0 e.1 v (look_head o e es) p r in
          let more = grows e m n v s h both.1 in
          let long = length_within o (insert o e.0 v m) n (sorted_insert o e.0 v m s) u more in
          let room : length m < most = omega (arith, length_insert o e.0 v m both.0) in (
            (both.0, room),
            ih (insert o e.0 v m) (sorted_insert o e.0 v m s) more (λ q w x f d y.
                let old = a q w x (tail_found q w e es t f).0 d y in
                let apart = (tail_found q w e es t f).1 in
                (let z = look_insert o q e.0 v m s in let g = old.0 in grind arith, old.1)),
          )

  pub spill_fits : (most : ℕ) (es : List (K × W)) (m : List (K × V)) → Sorted o es → Sorted o m → Flags o k es m → length (laid o k es m) ≤ most → Fits o k most es (takes o k es m)
  spill_fits most es m t s f l = fits most es (takes o k es m) (laid o k es m) t (sorted_takes es m s) (sorted_laid es m s) within l wanting
    where
      within : Within o (takes o k es m) (laid o k es m)
      within q v h = look_laid q es m t s ∙ go (look o q es) refl (sym (look_takes q es m t s) ∙ h)
        where
          one : (w : W) (d f : Bool) → k.dirty w ≡ d → k.fresh w ≡ f → Agrees k w (look o q m) → taken d f (look o q m) ≡ Some v → k.value w ≡ Some v
          one w false f p r a g = sym (a.0 p) ∙ g
          one w true true p r a g = let n = a.1 r in grind arith
          one w true false p r a g = grind arith

          go : (x : Option W) → look o q es ≡ x → after_takes x (look o q m) ≡ Some v → said k x (look o q m) ≡ Some v
          go None e g = g
          go (Some w) e g = one w (k.dirty w) (k.fresh w) refl refl (f q w e) g

      gone : (w : W) (d b : Bool) (x : Option V) → d ≡ true → k.fresh w ≡ b → Agrees k w x → taken d b x ≡ None
      gone w true true x p r a = a.1 r
      gone w true false x p r a = refl
      gone w false b x p r a = grind arith

      wanting : Wanting es (takes o k es m) (laid o k es m)
      wanting q w v e d y = (
        look_takes q es m t s ∙ ap (λ x. after_takes x (look o q m)) e ∙ gone w (k.dirty w) (k.fresh w) (look o q m) d refl (f q w e),
        look_laid q es m t s ∙ ap (λ x. said k x (look o q m)) e ∙ y,
      )
