-- What each call does to the ledger is what it does to the book. Assumes nothing.
use Rattle.std.proofs.Common.{◌≡◌, ℕ, zero, suc, ◌+◌, ◌<◌, ◌≤◌, min, Bool, true, false, ◌&&◌, List, [], ◌∷◌, length, is_ok, is_some, IsSomeAnd, Some, None, Option, Ok, Err, Result, sym, refl, ap, ◌∙◌, subst, arith}
use Rattle.coinsview.specs.declared.view.CoinsView.{Ghosts as ViewGhosts}
use Rattle.views.specs.declared.condition.SpendCondition.{Ghosts as ConditionGhosts}
use Rattle.maps.specs.Maps.{Sorted}
use Rattle.maps.specs.Keyed.{outpoints}
use Rattle.coinsview.specs.Meaning.{Coins}
use Rattle.undo.specs.declared.Record.{Record}
use Rattle.undo.specs.declared.Record.TheVariants.{Mark, Made, Spent}
use Rattle.undo.specs.Entries.{entries, newest}
use Rattle.blockform.specs.Value.{BlockValue}
use Rattle.connecting.specs.declared.block.Sums.{Sums}
use Rattle.connecting.specs.declared.fault.BlockFault.{BlockFault}
use Rattle.connecting.specs.Rules.{checks, needs, effect}
use Rattle.connecting.specs.Subsidy.{subsidy_at}
use Rattle.unwinding.specs.Undoing.{Back, undone, found, back}
use Rattle.connecting.specs.Value.{value_in}
use Rattle.connecting.proofs.Conserved.{then_ok, effect_value}
use Rattle.ledger.specs.declared.ActiveChain.{ActiveChain}
use Rattle.ledger.specs.declared.Ledger.{Ledger}
use Rattle.ledger.specs.declared.fault.LedgerFault.{LedgerFault}
use Rattle.ledger.specs.declared.fault.LedgerFault.TheVariants.{Nothing}
use Rattle.ledger.specs.declared.Outcome.TheVariants.{Clean}
use Rattle.ledger.specs.Book.{Terms, Book, tip_id, accept, coins_after, burned_by, replay, coins_of, all_burned, all_subsidies, entries_needed, disconnect_by, settled}
use Rattle.ledger.specs.Standing.{AllAccepted, Unwinds, started, ChainOf, Stands, Unchanged}

-- a disconnect is refused where no block is kept, and else answers the height
pub none_kept : (bs : List BlockValue) (n : ℕ) → n ≡ 0 → disconnect_by bs n ≡ Err Nothing
none_kept bs zero e = refl
none_kept bs (suc n) e = absurd (omega arith)

pub some_kept : (bs : List BlockValue) (n h : ℕ) → h ≡ length bs → (n ≡ 0 → ⊥) → disconnect_by bs n ≡ Ok (record { height = h; outcome = Clean })
some_kept bs zero h e z = absurd (z refl)
some_kept bs (suc n) h e z = ap (λ x. Ok (record { height = x; outcome = Clean })) (sym e)

pub some_then : {X : Type 0} {P Q : X → Type 0} (o : Option X) → IsSomeAnd o P → ((x : X) → P x → Q x) → IsSomeAnd o Q
some_then None h f = h
some_then (Some x) h f = f x h

some_since : {X : Type 0} (P : X → Type 0) (o : Option X) → IsSomeAnd o P → is_some o ≡ true
some_since P None h = absurd h
some_since P (Some x) h = refl

pub clash : {X : Type 0} (b : Bool) → b ≡ true → b ≡ false → X
clash b p q = let z : true ≡ false = sym p ∙ q in let y : ◌≡◌ {A = ℕ} 0 1 = cc in absurd (omega arith)

-- the entries that are taken are those that the kept blocks need
pub chain_long : (t : Terms) (bs : List BlockValue) (n : ℕ) (es : List Record) → Unwinds t bs n es → length es ≡ entries_needed bs n
chain_long t bs zero es u = ap length u
chain_long t [] (suc n) es u = absurd u
chain_long t (b ∷ bs) (suc n) es u = u.2 ∙ ap (λ k. needs b + k) (chain_long t bs n u.0 u.3)

-- where a block is kept, its mark is found
unwinds_found : {X : Type 0} (t : Terms) (bs : List BlockValue) (n : ℕ) (es : List Record) → Unwinds t bs n es → (n ≡ 0 → ⊥) → back t.setting.room es (replay t bs) true ≡ None → X
unwinds_found t bs zero es u h e = absurd (h refl)
unwinds_found t [] (suc n) es u h e = absurd u
unwinds_found t (b ∷ bs) (suc n) es u h e = let a = sym u.1 ∙ e in absurd (let z : ◌≡◌ {A = ℕ} 0 1 = cc in omega arith)

-- ---- the entries of the newest blocks

below_newest : (room n : ℕ) (es : List Record) (m : Coins) (b : Bool) (r : Back) → back room es m b ≡ Some r → back room (newest (suc n) es) m b ≡ Some (record { previous = r.previous; below = newest n r.below; coins = r.coins; clean = r.clean })
below_newest room n [] m b r h = absurd (let z : ◌≡◌ {A = ℕ} 0 1 = cc in omega arith)
below_newest room n (Mark p ∷ es) m b r h =
    let e : record { previous = p; below = es; coins = m; clean = b } ≡ r = cc in
    ap (λ x. Some (record { previous = x.previous; below = newest n x.below; coins = x.coins; clean = x.clean })) e
below_newest room n (Made k c ∷ es) m b r h = below_newest room n es (undone room (Made k c) m) (found room (Made k c) m && b) r h
below_newest room n (Spent k c ∷ es) m b r h = below_newest room n es (undone room (Spent k c) m) (found room (Spent k c) m && b) r h

long_newest : (room n : ℕ) (es : List Record) (m : Coins) (b : Bool) (r : Back) → back room es m b ≡ Some r → length (newest (suc n) es) + length r.below ≡ length es + length (newest n r.below)
long_newest room n [] m b r h = absurd (let z : ◌≡◌ {A = ℕ} 0 1 = cc in omega arith)
long_newest room n (Mark p ∷ es) m b r h =
    let e : record { previous = p; below = es; coins = m; clean = b } ≡ r = cc in
    let f : es ≡ r.below = ap (λ x. x.below) e in
    omega (arith, ap length f, ap (λ x. length (newest n x)) f)
long_newest room n (Made k c ∷ es) m b r h = omega (arith, long_newest room n es (undone room (Made k c) m) (found room (Made k c) m && b) r h)
long_newest room n (Spent k c ∷ es) m b r h = omega (arith, long_newest room n es (undone room (Spent k c) m) (found room (Spent k c) m && b) r h)

pub unwinds_newest : (t : Terms) (bs : List BlockValue) (k n : ℕ) (es : List Record) → n ≤ k → Unwinds t bs k es → Unwinds t bs n (newest n es)
unwinds_newest t bs k zero es h u = refl
unwinds_newest t bs zero (suc n) es h u = absurd (omega arith)
unwinds_newest t [] (suc k) (suc n) es h u = absurd u
unwinds_newest t (b ∷ bs) (suc k) (suc n) es h u =
    let room = t.setting.room in
    let a = below_newest room n es (replay t (b ∷ bs)) true _ u.1 in
    let l = long_newest room n es (replay t (b ∷ bs)) true _ u.1 in
    (newest n u.0, a, omega (arith, l, u.2), unwinds_newest t bs k n u.0 (omega arith) u.3)

-- ---- the value of the coins

accept_value : (t : Terms) (bs : List BlockValue) (b : BlockValue) (m : Coins) (r : Result (Coins × Sums) BlockFault) → accept t bs b m ≡ r → is_ok r ≡ true → Sorted outpoints m → (value_in (coins_after r m) + burned_by r ≡ value_in m + subsidy_at t.setting.halving (length bs + 1)) × Sorted outpoints (coins_after r m)
accept_value t bs b m (Ok r) e o s =
    let p = then_ok (checks (tip_id t bs) (length bs) t.last b) (λ _. effect t.setting (length bs + 1) b.transactions m) r e in
    effect_value t.setting (length bs + 1) b.transactions m r.0 r.1 s p.2
accept_value t bs b m (Err f) e o s = absurd (let z : ◌≡◌ {A = ℕ} 0 1 = cc in omega arith)

-- the coins and what was burned are worth the subsidies
pub replay_value : (t : Terms) (bs : List BlockValue) → AllAccepted t bs → (value_in (replay t bs) + all_burned t bs ≡ all_subsidies t bs) × Sorted outpoints (replay t bs)
replay_value t [] a = (refl, tt)
replay_value t (b ∷ bs) a =
    let ih = replay_value t bs a.1 in
    let v = accept_value t bs b (replay t bs) (accept t bs b (replay t bs)) refl a.0 ih.1 in
    (omega (arith, v.0, ih.0), v.1)

-- ---- ledgers that read alike

module _ {V C : Type 0} (v : ViewGhosts V) (c : ConditionGhosts C) where
  -- a ledger that stands by a book is started, and its active chain is the book's
  pub stands_started : (k : Book) (l : Ledger V C) → Stands v c k l → started l ≡ true
  stands_started k l s = some_since (ChainOf k) l.active s.active

  pub chain_of : (k : Book) (l : Ledger V C) (h : ActiveChain) → l.active ≡ Some h → Stands v c k l → ChainOf k h
  chain_of k l h e s = subst (λ o. IsSomeAnd o (ChainOf k)) e s.active

  pub same_stands : (k : Book) (a z : Ledger V C) → Stands v c k a → Unchanged v a z → Stands v c k z
  same_stands k a z s e = record {
    active = subst (λ o. IsSomeAnd o (ChainOf k)) (sym e.active) s.active;
    room = e.room ∙ s.room;
    opens = ap c.opens e.condition ∙ s.opens;
    coins = e.coins ∙ s.coins;
    accepted = s.accepted;
    undo = subst (Unwinds k.terms k.blocks k.kept) (sym e.undo) s.undo;
  }

  -- a ledger that keeps a block finds its mark
  pub mark_found : {X : Type 0} (k : Book) (a : Ledger V C) (h : ActiveChain) → a.active ≡ Some h → Stands v c k a → (h.kept ≡ 0 → ⊥) → back (v.most a.state.view) (entries a.state.undo) (v.coins a.state.view) true ≡ None → X
  mark_found k a h i s n e = unwinds_found k.terms k.blocks k.kept (entries a.state.undo) s.undo (λ z. n ((chain_of k a h i s).kept ∙ z)) (ap (λ n. back n (entries a.state.undo) (coins_of k) true) (sym s.room) ∙ ap (λ m. back (v.most a.state.view) (entries a.state.undo) m true) (sym s.coins) ∙ e)

  -- fewer blocks are kept
  pub settle_law : (k : Book) (a z : Ledger V C) (h w : ActiveChain) (n : ℕ) → a.active ≡ Some h → Stands v c k a → n < h.kept → z.state.view ≡ a.state.view → z.condition ≡ a.condition → z.active ≡ Some w → w.terms ≡ h.terms → w.tip ≡ h.tip → w.kept ≡ n → entries z.state.undo ≡ newest n (entries a.state.undo) → Stands v c (settled k n) z × (◌≡◌ {A = Result ℕ LedgerFault} (Ok n) (Ok (min n k.kept)))
  settle_law k a z h w n i s l zv zc zw zt zp zk ze =
      let t = chain_of k a h i s in
      let less : min n k.kept ≡ n = omega (arith, t.kept, l) in
      let chain : ChainOf (settled k n) w = record {
        halving = ap (λ x. x.halving) zt ∙ t.halving;
        maturity = ap (λ x. x.maturity) zt ∙ t.maturity;
        last = ap (λ x. x.last) zt ∙ t.last;
        tip = ap (λ x. x.id) zp ∙ t.tip;
        height = ap (λ x. x.height) zp ∙ t.height;
        kept = zk ∙ sym less;
      } in (
        record {
          active = subst (λ o. IsSomeAnd o (ChainOf (settled k n))) (sym zw) chain;
          room = ap v.most zv ∙ s.room;
          opens = ap c.opens zc ∙ s.opens;
          coins = ap v.coins zv ∙ s.coins;
          accepted = s.accepted;
          undo = subst (λ j. Unwinds k.terms k.blocks j (entries z.state.undo)) (sym less) (subst (Unwinds k.terms k.blocks n) (sym ze) (unwinds_newest k.terms k.blocks k.kept n (entries a.state.undo) (omega (arith, t.kept, l)) s.undo));
        },
        ap Ok (sym less),
      )
