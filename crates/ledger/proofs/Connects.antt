-- Connecting a block is what the book says. Assumes nothing.
use Rattle.std.proofs.Common.{◌≡◌, ℕ, ◌+◌, ◌-◌, ◌<◌, ◌≤◌, Bool, true, false, cond, ltb, List, ◌∷◌, length, is_ok, IsSomeAnd, Some, Ok, Err, Result, Ordering, Less, Equal, Greater, sym, refl, ap, ◌∙◌, subst, arith, le-ltb, lt-ltb}
use Rattle.std.specs.Cmp.Lexicographic.{slice_cmp}
use Rattle.coins.proofs.Ordered.{lex_equal}
use Rattle.coinsview.specs.declared.view.CoinsView.{Ghosts as ViewGhosts}
use Rattle.views.specs.declared.condition.SpendCondition.{Ghosts as ConditionGhosts}
use Rattle.coinsview.specs.Meaning.{Coins}
use Rattle.undo.specs.Entries.{entries}
use Rattle.blockform.specs.Value.{BlockValue, TransactionValue}
use Rattle.blockform.specs.Places.{read_block}
use Rattle.connecting.specs.declared.block.Sums.{Sums}
use Rattle.connecting.specs.declared.fault.BlockFault.{BlockFault}
use Rattle.connecting.specs.declared.fault.BlockFault.TheVariants.{Parent, LastHeight, LogFull}
use Rattle.connecting.specs.Rules.{Setting, then, equal, same_id, checks, transactions_checks, needs, effect}
use Rattle.unwinding.specs.Undoing.{back}
use Rattle.connecting.proofs.Conserved.{no_err, ok_same}
use Rattle.ledger.specs.declared.ActiveChain.{ActiveChain}
use Rattle.ledger.specs.declared.Ledger.{Ledger}
use Rattle.ledger.specs.declared.Connected.{Connected}
use Rattle.ledger.specs.Book.{Book, tip_id, accept, coins_after, replay, coins_of, entries_needed, of_form, connect_block, connect_bytes, with_block, told, connected}
use Rattle.ledger.specs.Standing.{ChainOf, Stands, Unchanged}
use Rattle.ledger.proofs.Books.{same_stands, chain_of, chain_long}
use Rattle.std.specs.Ordering.{nat_cmp}

-- ---- checks that passed, and checks that did not

pub then_passed : {X : Type 0} (s : Result Unit BlockFault) (k n : X) → Ok n ≡ then s (λ _. Ok k) → (s ≡ Ok tt) × (n ≡ k)
then_passed (Ok tt) k n h = (refl, ok_same {F = BlockFault} n k h)
then_passed (Err f) k n h = no_err f n (sym h)

pub then_stopped : {X : Type 0} (s : Result Unit BlockFault) (k : X) (f : BlockFault) → Err f ≡ then s (λ _. Ok k) → s ≡ Err f
then_stopped (Ok u) k f h = no_err f k h
then_stopped (Err g) k f h = let z : g ≡ f = cc in ap Err z

test_yes : {X : Type 0} (b : Bool) (r : Result X BlockFault) (f : BlockFault) (x : X) → cond b r (Err f) ≡ Ok x → (b ≡ true) × (r ≡ Ok x)
test_yes true r f x h = (refl, h)
test_yes false r f x h = no_err f x h

equal_is : (o : Ordering) → equal o ≡ true → o ≡ Equal
equal_is Less h = absurd (let z : ◌≡◌ {A = ℕ} 0 1 = cc in omega arith)
equal_is Equal h = refl
equal_is Greater h = absurd (let z : ◌≡◌ {A = ℕ} 0 1 = cc in omega arith)

pub checks_say : (tip : List ℕ) (h last : ℕ) (b : BlockValue) → checks tip h last b ≡ Ok tt → (b.previous ≡ tip) × (transactions_checks b.transactions ≡ Ok tt)
checks_say tip h last b e =
    let p = test_yes (same_id b.previous tip) _ Parent tt e in
    let q = test_yes (ltb h last) (transactions_checks b.transactions) LastHeight tt p.1 in
    (lex_equal b.previous tip (equal_is (slice_cmp nat_cmp b.previous tip) p.0), q.1)

module _ {V C : Type 0} (v : ViewGhosts V) (c : ConditionGhosts C) (k : Book) (a : Ledger V C) (q : ActiveChain) (i : a.active ≡ Some q) (s : Stands v c k a) where
  of_book : ChainOf k q
  of_book = chain_of v c k a q i s

  -- what the effect of a block depends on, as the ledger has it
  held : Setting
  held = record { room = v.most a.state.view; opens = c.opens a.condition; halving = q.terms.halving; maturity = q.terms.maturity }

  held_is : held ≡ k.terms.setting
  unfolding held
  held_is = λ i. record { room = s.room i; opens = s.opens i; halving = of_book.halving i; maturity = of_book.maturity i }

  effect_is : (ts : List TransactionValue) → effect k.terms.setting (length k.blocks + 1) ts (coins_of k) ≡ effect held (q.tip.height + 1) ts (v.coins a.state.view)
  effect_is ts =
      ap (λ x. effect x (length k.blocks + 1) ts (coins_of k)) (sym held_is)
      ∙ ap (λ n. effect held (n + 1) ts (coins_of k)) (sym of_book.height)
      ∙ ap (effect held (q.tip.height + 1) ts) (sym s.coins)

  checks_is : (b : BlockValue) → checks (tip_id k.terms k.blocks) (length k.blocks) k.terms.last b ≡ checks q.tip.id q.tip.height q.terms.last b
  checks_is b =
      ap (λ x. checks x (length k.blocks) k.terms.last b) (sym of_book.tip)
      ∙ ap (λ n. checks q.tip.id n k.terms.last b) (sym of_book.height)
      ∙ ap (λ n. checks q.tip.id q.tip.height n b) (sym of_book.last)

  module _ (bytes : List ℕ) (b : BlockValue) (rd : read_block bytes ≡ Ok b) where
    by_block : connect_bytes k bytes ≡ then (connect_block k b) (λ r. Ok (b, r.1))
    by_block = ap (λ x. then (of_form x) (λ y. then (connect_block k y) (λ r. Ok (y, r.1)))) rd

    pub check_refused : (f : BlockFault) → checks q.tip.id q.tip.height q.terms.last b ≡ Err f → connect_bytes k bytes ≡ Err f
    check_refused f h = by_block ∙ ap (λ x. then (then x (λ _. cond (ltb (512 - entries_needed k.blocks k.kept) (needs b)) (Err LogFull) (effect k.terms.setting (length k.blocks + 1) b.transactions (coins_of k)))) (λ r. Ok (b, r.1))) (checks_is b ∙ h)

    module _ (ok : checks q.tip.id q.tip.height q.terms.last b ≡ Ok tt) where
      past_checks : connect_bytes k bytes ≡ then (cond (ltb (512 - length (entries a.state.undo)) (needs b)) (Err LogFull) (effect held (q.tip.height + 1) b.transactions (v.coins a.state.view))) (λ r. Ok (b, r.1))
      past_checks =
          by_block
          ∙ ap (λ x. then (then x (λ _. cond (ltb (512 - entries_needed k.blocks k.kept) (needs b)) (Err LogFull) (effect k.terms.setting (length k.blocks + 1) b.transactions (coins_of k)))) (λ r. Ok (b, r.1))) (checks_is b ∙ ok)
          ∙ ap (λ n. then (cond (ltb (512 - n) (needs b)) (Err LogFull) (effect k.terms.setting (length k.blocks + 1) b.transactions (coins_of k))) (λ r. Ok (b, r.1))) (sym (chain_long k.terms k.blocks k.kept (entries a.state.undo) s.undo))
          ∙ ap (λ x. then (cond (ltb (512 - length (entries a.state.undo)) (needs b)) (Err LogFull) x) (λ r. Ok (b, r.1))) (effect_is b.transactions)

      pub full_refused : 512 - length (entries a.state.undo) < needs b → connect_bytes k bytes ≡ Err LogFull
      full_refused h = past_checks ∙ ap (λ x. then (cond x (Err LogFull) (effect held (q.tip.height + 1) b.transactions (v.coins a.state.view))) (λ r. Ok (b, r.1))) (lt-ltb _ _ h)

      module _ (free : needs b ≤ 512 - length (entries a.state.undo)) where
        past_room : connect_bytes k bytes ≡ then (effect held (q.tip.height + 1) b.transactions (v.coins a.state.view)) (λ r. Ok (b, r.1))
        past_room = past_checks ∙ ap (λ x. then (cond x (Err LogFull) (effect held (q.tip.height + 1) b.transactions (v.coins a.state.view))) (λ r. Ok (b, r.1))) (le-ltb _ _ free)

        pub effect_refused : (f : BlockFault) → effect (record { room = v.most a.state.view; opens = c.opens a.condition; halving = q.terms.halving; maturity = q.terms.maturity }) (q.tip.height + 1) b.transactions (v.coins a.state.view) ≡ Err f → connect_bytes k bytes ≡ Err f
        unfolding held
        effect_refused f h = past_room ∙ ap (λ x. then x (λ r. Ok (b, r.1))) h

        pub effect_accepted : (m : Coins) (z : Sums) → effect (record { room = v.most a.state.view; opens = c.opens a.condition; halving = q.terms.halving; maturity = q.terms.maturity }) (q.tip.height + 1) b.transactions (v.coins a.state.view) ≡ Ok (m, z) → (connect_bytes k bytes ≡ Ok (b, z)) × (accept k.terms k.blocks b (coins_of k) ≡ Ok (m, z))
        unfolding held
        effect_accepted m z h = (
          past_room ∙ ap (λ x. then x (λ r. Ok (b, r.1))) h,
          ap (λ x. then x (λ _. effect k.terms.setting (length k.blocks + 1) b.transactions (coins_of k))) (checks_is b ∙ ok) ∙ effect_is b.transactions ∙ h,
        )

  -- a refusal leaves the book, and the ledger as it reads
  pub refused_law : (z : Ledger V C) (bytes : List ℕ) (f : BlockFault) → Unchanged v a z → connect_bytes k bytes ≡ Err f → Stands v c (connected k bytes) z × (◌≡◌ {A = Result Connected BlockFault} (Err f) (told k (connect_bytes k bytes)))
  refused_law z bytes f e h = (subst (λ x. Stands v c (with_block k x) z) (sym h) (same_stands v c k a z s e), sym (ap (told k) h))

  pub accepted_law : (z : Ledger V C) (w : ActiveChain) (bytes : List ℕ) (b : BlockValue) (m : Coins) (sums : Sums) → connect_bytes k bytes ≡ Ok (b, sums) → accept k.terms k.blocks b (coins_of k) ≡ Ok (m, sums) → b.previous ≡ q.tip.id
      → v.most z.state.view ≡ v.most a.state.view → z.condition ≡ a.condition → z.active ≡ Some w → w.terms ≡ q.terms → v.coins z.state.view ≡ m → w.tip.id ≡ b.id → w.tip.height ≡ q.tip.height + 1 → w.kept ≡ q.kept + 1
      → back (v.most a.state.view) (entries z.state.undo) (v.coins z.state.view) true ≡ Some (record { previous = b.previous; below = entries a.state.undo; coins = v.coins a.state.view; clean = true }) → length (entries z.state.undo) ≡ needs b + length (entries a.state.undo)
      → Stands v c (connected k bytes) z × (◌≡◌ {A = Result Connected BlockFault} (Ok (record { height = q.tip.height + 1; made = sums.made; spent = sums.spent; fees = sums.fees; burned = sums.burned })) (told k (connect_bytes k bytes)))
  accepted_law z w bytes b m sums h acc pr zr zc zw zt zm zi zh zk zb zl =
      let coins : v.coins z.state.view ≡ replay k.terms (b ∷ k.blocks) = zm ∙ sym (ap (λ x. coins_after x (coins_of k)) acc) in
      let more : ChainOf (with_block k (Ok (b, sums))) w = record {
        halving = ap (λ x. x.halving) zt ∙ of_book.halving;
        maturity = ap (λ x. x.maturity) zt ∙ of_book.maturity;
        last = ap (λ x. x.last) zt ∙ of_book.last;
        tip = zi;
        height = omega (arith, zh, of_book.height);
        kept = omega (arith, zk, of_book.kept);
      } in
      let st : Stands v c (with_block k (Ok (b, sums))) z = record {
        active = subst (λ o. IsSomeAnd o (ChainOf (with_block k (Ok (b, sums))))) (sym zw) more;
        room = zr ∙ s.room;
        opens = ap c.opens zc ∙ s.opens;
        coins = coins;
        accepted = (ap is_ok acc, s.accepted);
        undo = (
          entries a.state.undo,
          ap (λ x. back k.terms.setting.room (entries z.state.undo) x true) (sym coins)
              ∙ ap (λ x. back x (entries z.state.undo) (v.coins z.state.view) true) (sym s.room)
              ∙ zb
              ∙ ap (λ x. Some (record { previous = x; below = entries a.state.undo; coins = v.coins a.state.view; clean = true })) (pr ∙ of_book.tip)
              ∙ ap (λ x. Some (record { previous = tip_id k.terms k.blocks; below = entries a.state.undo; coins = x; clean = true })) s.coins,
          zl,
          s.undo,
        );
      } in (
        subst (λ x. Stands v c (with_block k x) z) (sym h) st,
        ap (λ n. Ok (record { height = n + 1; made = sums.made; spent = sums.spent; fees = sums.fees; burned = sums.burned })) of_book.height ∙ sym (ap (told k) h),
      )
