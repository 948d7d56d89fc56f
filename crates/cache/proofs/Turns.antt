-- What each call makes of a cache that is in order.
use Rattle.std.proofs.Common.{◌≡◌, ℕ, ◌+◌, ◌-◌, ◌<◌, ◌≤◌, Bool, true, false, cond, ltb, [], length, Some, None, Option, sym, refl, ap, ◌∙◌, subst, arith}
use Rattle.coins.specs.declared.outpoint.Outpoint.{Outpoint}
use Rattle.coins.specs.declared.coin.Coin.{Coin}
use Rattle.maps.specs.Maps.{Sorted, write}
use Rattle.maps.proofs.Laws.{length_insert, length_remove}
use Rattle.maps.specs.Layers.{Agrees, said, Fits}
use Rattle.maps.proofs.Layered.{look_laid, sorted_laid, laid_insert, laid_clean, laid_remove, flags_insert, flags_remove, flags_none, spilled_is, spill_fits}
use Rattle.maps.specs.Keyed.{outpoints}
use Rattle.coinsview.specs.Meaning.{Coins, coin_at, with_coin, without}
use Rattle.entries.specs.declared.table.Entry.{Entry}
use Rattle.entries.specs.Entries.{clean, created, replaced, spent, Entries, entry_at, with_entry, without_entry}
use Rattle.cache.specs.Rules.{put_entry, look_entry, take_entry, room_under, with_room, below_with_room, marks, over_below, taken_below, spilled_below}
use Rattle.cache.specs.Kept.{Kept}

module _ (es : Entries) (n : ℕ) (m : Coins) (most : ℕ) (h : Kept es n m most) (o : Sorted outpoints es) (s : Sorted outpoints m) where
  pub spill_can : (a : Entries) (t : Coins) (top : ℕ) → a ≡ es → t ≡ taken_below es m → top ≡ most → Fits outpoints marks top a t
  spill_can a t top x y z =
      let P : Entries → Coins → ℕ → Type 0 = λ a t top. Fits outpoints marks top a t in
      subst (λ a. P a t top) (sym x) (subst (λ t. P es t top) (sym y) (subst (P es (taken_below es m)) (sym z) (spill_fits outpoints marks most es m o s h.step h.fits)))

  pub spill_map : spilled_below es m ≡ over_below es m
  spill_map = spilled_is outpoints marks es m o s h.step

  pub kept_empty : (now : Coins) (top : ℕ) → now ≡ over_below es m → top ≡ most → Kept [] n now top
  kept_empty now top x z = record { step = flags_none outpoints marks now; counted = h.counted ∙ ap length (sym x); fits = omega (arith, h.fits, ap length x) }

  -- a call of the view below that leaves its map
  pub kept_moved : (now : Coins) (top : ℕ) → now ≡ m → top ≡ most → Kept es n now top
  kept_moved now top x y = subst (λ k. Kept es n k top) (sym x) (subst (Kept es n m) (sym y) h)

  -- ---- what the map says of one outpoint
  pub over_at : (k : Outpoint) (w : Option Entry) → entry_at k es ≡ w → coin_at k (over_below es m) ≡ said marks w (coin_at k m)
  over_at k w e = look_laid outpoints marks k es m o s ∙ ap (λ x. said marks x (coin_at k m)) e

some_or_none : {x : Option Coin} {v : Coin} → x ≡ None → x ≡ Some v → ⊥
some_or_none a b = cc

-- the parts in order, with the map that they say
abbrev pub Says : Entries → ℕ → Coins → ℕ → Coins → Type 0
Says es n m most x = Kept es n m most × (over_below es m ≡ x)

pub says_is : (es es' : Entries) (n n' : ℕ) (m m' : Coins) (most most' : ℕ) (x : Coins) → Says es n m most x → es' ≡ es → n' ≡ n → m' ≡ m → most' ≡ most → Says es' n' m' most' x
says_is es es' n n' m m' most most' x h a b c d =
    subst (λ z. Says z n' m' most' x) (sym a) (subst (λ z. Says es z m' most' x) (sym b) (subst (λ z. Says es n z most' x) (sym c) (subst (λ z. Says es n m z x) (sym d) h)))

module _ (es : Entries) (n : ℕ) (m : Coins) (most : ℕ) (h : Kept es n m most) (o : Sorted outpoints es) (s : Sorted outpoints m) (k : Outpoint) where
  says_with : (e : Entry) (x : Coins) (n' : ℕ) → Agrees marks e (coin_at k m) → over_below (with_entry k e es) m ≡ x → n' ≡ length x → length x ≤ most → Says (with_entry k e es) n' m most x
  says_with e x n' a w c f = (record { step = flags_insert outpoints marks k e es m o h.step a; counted = c ∙ ap length (sym w); fits = omega (arith, f, ap length w) }, w)

  over_with : (e : Entry) → over_below (with_entry k e es) m ≡ write outpoints k e.coin (over_below es m)
  over_with e = laid_insert outpoints marks k e es m o s

  -- below a spent entry there is a coin
  stale : (e : Entry) → entry_at k es ≡ Some e → e.coin ≡ None → coin_at k m ≡ None → ⊥
  stale e f z y = go e.fresh refl
    where
      go : (b : Bool) → e.fresh ≡ b → ⊥
      go true p = (h.step k e f).3 p z
      go false p = (h.step k e f).2 p y

  -- put on a spent entry
  put_replaced : (v : Coin) (e : Entry) → entry_at k es ≡ Some e → coin_at k (over_below es m) ≡ None → n < most → Says (with_entry k (replaced v) es) (n + 1) m most (with_coin k v (over_below es m))
  put_replaced v e f none l =
      let z : e.coin ≡ None = sym (over_at es n m most h o s k (Some e) f) ∙ none in
      let long = length_insert outpoints k v (over_below es m) none in
      let c = h.counted in
      says_with (replaced v) _ (n + 1) (λ d. cc, λ d. cc, λ d y. stale e f z y, λ d. cc) (over_with (replaced v)) (omega arith) (omega arith)

  -- put where there is neither entry nor coin
  put_created : (v : Coin) → entry_at k es ≡ None → coin_at k m ≡ None → n < most → Says (with_entry k (created v) es) (n + 1) m most (with_coin k v (over_below es m))
  put_created v f z l =
      let none : coin_at k (over_below es m) ≡ None = over_at es n m most h o s k None f ∙ z in
      let long = length_insert outpoints k v (over_below es m) none in
      let c = h.counted in
      says_with (created v) _ (n + 1) (λ d. cc, λ d. z, λ d. cc, λ d y. cc) (over_with (created v)) (omega arith) (omega arith)

  -- take where there is a coin, which leaves a spent entry
  take_spent : (v : Coin) → coin_at k (over_below es m) ≡ Some v → (coin_at k m ≡ None → ⊥) → Says (with_entry k spent es) (n - 1) m most (without k (over_below es m))
  take_spent v f b =
      let short = length_remove outpoints k v (over_below es m) f in
      let c = h.counted in
      let fit = h.fits in
      says_with spent _ (n - 1) (λ d. cc, λ d. cc, λ d. b, λ d. cc) (over_with spent) (omega arith) (omega arith)

  -- take of a fresh entry
  take_fresh : (v : Coin) (e : Entry) → entry_at k es ≡ Some e → coin_at k (over_below es m) ≡ Some v → e.fresh ≡ true → Says (without_entry k es) (n - 1) m most (without k (over_below es m))
  take_fresh v e f there y =
      let short = length_remove outpoints k v (over_below es m) there in
      let c = h.counted in
      let fit = h.fits in
      let over : over_below (without_entry k es) m ≡ without k (over_below es m) = laid_remove outpoints marks k es m o s ((h.step k e f).1 y) in
      (record { step = flags_remove outpoints marks k es m o h.step; counted = (let w = ap length over in omega arith); fits = omega (arith, ap length over) }, over)

  -- look enters what it found below
  look_clean : (v : Coin) → entry_at k es ≡ None → coin_at k m ≡ Some v → Says (with_entry k (clean v) es) n m most (over_below es m)
  look_clean v f z = says_with (clean v) _ n (λ d. z, λ d. cc, λ d y. cc, λ d. cc) (laid_clean outpoints marks k (clean v) es m o s f z) h.counted h.fits

  -- ---- room for one more
  record Roomy (es' : Entries) (m' : Coins) : Type 0 where
    pub kept : Kept es' n m' most
    pub over : over_below es' m' ≡ over_below es m
    pub none : entry_at k es' ≡ None
    pub same : coin_at k m' ≡ coin_at k m
    pub order : Sorted outpoints es'
    pub rows : Sorted outpoints m'

  roomy : entry_at k es ≡ None → Roomy (with_room es) (below_with_room es m)
  roomy f = go (ltb (length es) 64) refl
    where
      go : (b : Bool) → ltb (length es) 64 ≡ b → Roomy (cond b es []) (cond b m (spilled_below es m))
      go true e = record { kept = h; over = refl; none = f; same = refl; order = o; rows = s }
      go false e =
          let all = spill_map es n m most h o s in
          record {
            kept = kept_empty es n m most h o s (spilled_below es m) most all refl;
            over = all;
            none = refl;
            same = ap (coin_at k) all ∙ over_at es n m most h o s k None f;
            order = tt;
            rows = subst (Sorted outpoints) (sym all) (sorted_laid outpoints marks es m s);
          }

module _ (es : Entries) (n : ℕ) (m : Coins) (most : ℕ) (h : Kept es n m most) (o : Sorted outpoints es) (s : Sorted outpoints m) (k : Outpoint) (v : Coin) where
  -- ---- what put, take and look leave, by the entry that was there
  pub put_left : (w : Option Entry) → entry_at k es ≡ w → coin_at k (over_below es m) ≡ None → n < most → Says (put_entry w k v es) (n + 1) (room_under w es m) most (with_coin k v (over_below es m))
  put_left (Some e) f z l = put_replaced es n m most h o s k v e f z l
  put_left None f z l =
      let r = roomy es n m most h o s k f in
      let none = r.same ∙ sym (over_at es n m most h o s k None f) ∙ z in
      subst (λ x. Says (put_entry None k v es) (n + 1) (room_under None es m) most (with_coin k v x)) r.over (put_created _ _ _ _ r.kept r.order r.rows k v r.none none l)

  pub take_left : (w : Option Entry) → entry_at k es ≡ w → coin_at k (over_below es m) ≡ Some v → Says (take_entry w k es) (n - 1) (room_under w es m) most (without k (over_below es m))
  take_left (Some e) f z = go e.fresh refl
    where
      go : (b : Bool) → e.fresh ≡ b → Says (cond b (without_entry k es) (with_entry k spent es)) (n - 1) m most (without k (over_below es m))
      go true y = take_fresh es n m most h o s k v e f z y
      go false y = take_spent es n m most h o s k v z ((h.step k e f).2 y)
  take_left None f z =
      let r = roomy es n m most h o s k f in
      let some : coin_at k m ≡ Some v = sym (over_at es n m most h o s k None f) ∙ z in
      subst (λ x. Says (take_entry None k es) (n - 1) (room_under None es m) most (without k x)) r.over (take_spent _ _ _ _ r.kept r.order r.rows k v (ap (coin_at k) r.over ∙ z) (λ y. some_or_none (sym r.same ∙ y) some))

  pub look_left : (w : Option Entry) → entry_at k es ≡ w → coin_at k (over_below es m) ≡ Some v → Says (look_entry w k v es) n m most (over_below es m)
  look_left (Some e) f z = (h, refl)
  look_left None f z = go (ltb (length es) 64)
    where
      some : coin_at k m ≡ Some v
      some = sym (over_at es n m most h o s k None f) ∙ z

      go : (b : Bool) → Says (cond b (with_entry k (clean v) es) es) n m most (over_below es m)
      go true = look_clean es n m most h o s k v f some
      go false = (h, refl)

  -- a coin is counted
  pub one_counted : coin_at k (over_below es m) ≡ Some v → 1 ≤ n
  one_counted f = let c = h.counted in omega (arith, length_remove outpoints k v (over_below es m) f)
