-- What a block takes from the coins and adds to them. Assumes nothing.
use Rattle.std.proofs.Common.{◌≡◌, ℕ, ◌+◌, ◌-◌, ◌<◌, ◌≤◌, Bool, true, false, cond, ◌&&◌, ltb, leb, ◌⊎◌, List, [], ◌∷◌, Some, None, Ok, Err, Option, Result, IsErrAnd, MatchResult, sym, refl, ap, ◌∙◌, subst, inl, inr, arith, ltb-false}
use Rattle.std.proofs.lemmas.Bool.Decides.{leb_tells}
use Rattle.coins.specs.declared.coin.Coin.{Coin}
use Rattle.coins.specs.declared.coin.Lock.{Lock}
use Rattle.coins.specs.declared.outpoint.Outpoint.{Outpoint}
use Rattle.maps.specs.Maps.{Sorted}
use Rattle.maps.specs.Keyed.{outpoints}
use Rattle.maps.proofs.Laws.{sorted_insert, sorted_remove, total_insert, total_remove}
use Rattle.coinsview.specs.declared.fault.ViewFault.{ViewFault}
use Rattle.coinsview.specs.Meaning.{Coins, coin_at, with_coin, without, put_by, put_answer}
use Rattle.blockform.specs.Value.{InputValue, OutputValue, TransactionValue}
use Rattle.connecting.specs.declared.fault.InputFault.{InputFault}
use Rattle.connecting.specs.declared.fault.InputFault.TheVariants.{Shut}
use Rattle.connecting.specs.declared.fault.TransactionFault.{TransactionFault}
use Rattle.connecting.specs.declared.fault.BlockFault.{BlockFault}
use Rattle.connecting.specs.declared.block.Sums.{Sums}
use Rattle.connecting.specs.Subsidy.{subsidy_at}
use Rattle.connecting.specs.Value.{value_in}
use Rattle.connecting.specs.Rules.{Setting, then, at_item, at_transaction, of_view, burns, worth, value_burned, spend, spend_all, make, make_all, coin_by, coin_of, spending, added, spending_all, none, effect}

-- ---- steps that were not refused

pub no_err : {X F : Type 0} {A : Type 0} (f : F) (x : X) → ◌≡◌ {A = Result X F} (Err f) (Ok x) → A
no_err f x h = let z : ◌≡◌ {A = ℕ} 0 1 = cc in absurd (omega arith)

pub ok_same : {X F : Type 0} (x y : X) → ◌≡◌ {A = Result X F} (Ok x) (Ok y) → x ≡ y
ok_same x y h = cc

pub then_ok : {X Y F : Type 0} (r : Result X F) (f : X → Result Y F) (y : Y) → then r f ≡ Ok y → (x : X) × (r ≡ Ok x) × (f x ≡ Ok y)
then_ok (Ok x) f y h = (x, refl, h)
then_ok (Err e) f y h = no_err e y h

pub item_ok : {X : Type 0} (i : ℕ) (r : Result X InputFault) (x : X) → at_item i r ≡ Ok x → r ≡ Ok x
item_ok i (Ok y) x h = let e : y ≡ x = cc in ap Ok e
item_ok i (Err f) x h = no_err _ x h

pub transaction_ok : {X : Type 0} (t : ℕ) (r : Result X TransactionFault) (x : X) → at_transaction t r ≡ Ok x → r ≡ Ok x
transaction_ok t (Ok y) x h = let e : y ≡ x = cc in ap Ok e
transaction_ok t (Err f) x h = no_err _ x h

-- an answer whose fault was given its place
pub placed_ok : {X E F : Type 0} (r : Result X E) (o : Result X F) (P : E → F → Type 0) (x : X) → MatchResult r (λ y. o ≡ Ok y) (λ e. IsErrAnd o (P e)) → o ≡ Ok x → r ≡ Ok x
placed_ok (Ok y) o P x h e = let z : y ≡ x = cc in ap Ok z
placed_ok (Err f) o P x h e = let z : IsErrAnd (Ok x) (P f) = rw e at h in absurd z

-- a test that refuses where it is true, and was false
pub test_ok : {X F : Type 0} (b : Bool) (e : F) (r : Result X F) (x : X) → cond b (Err e) r ≡ Ok x → (b ≡ false) × (r ≡ Ok x)
test_ok true e r x h = no_err e x h
test_ok false e r x h = (refl, h)

-- ---- a coin more, and a coin less

pub value_with : (k : Outpoint) (c : Coin) (m : Coins) → coin_at k m ≡ None → value_in (with_coin k c m) ≡ c.value + value_in m
value_with k c m h = total_insert outpoints (λ d. d.value) k c m h

pub value_without : (k : Outpoint) (c : Coin) (m : Coins) → coin_at k m ≡ Some c → value_in m ≡ c.value + value_in (without k m)
value_without k c m h = total_remove outpoints (λ d. d.value) k c m h

pub put_none : (w : Option Coin) (b : Bool) (u : Unit) → put_by w b ≡ Ok u → w ≡ None
put_none None b u h = refl
put_none (Some c) b u h = no_err _ u h

pub view_ok : {X : Type 0} (r : Result X ViewFault) (x : X) → of_view r ≡ Ok x → r ≡ Ok x
view_ok (Ok y) x h = let e : y ≡ x = cc in ap Ok e
view_ok (Err f) x h = no_err _ x h

module _ (opens : Lock → List ℕ → ℕ → Bool) (maturity h : ℕ) where
  pub spend_there : (w : Option Coin) (x : List ℕ) (c : Coin) → spend opens maturity h w x ≡ Ok c → w ≡ Some c
  spend_there None x c e = no_err _ c e
  spend_there (Some d) x c e =
      let a = test_ok (d.coinbase && ltb (h - d.height) maturity) _ _ c e in
      go (opens d.lock x h) a.1
    where
      go : (b : Bool) → cond b (Ok d) (Err Shut) ≡ Ok c → Some d ≡ Some c
      go true e = ap Some (ok_same {F = InputFault} d c e)
      go false e = no_err _ c e

  pub spend_all_value : (i : ℕ) (xs : List InputValue) (m : Coins) (p : ℕ) (n : Coins) (q : ℕ) → Sorted outpoints m → spend_all opens maturity h i xs m p ≡ Ok (n, q) → (value_in m + p ≡ value_in n + q) × Sorted outpoints n
  spend_all_value i [] m p n q o e = let z : (m, p) ≡ (n, q) = ok_same {F = TransactionFault} _ _ e in (ap (λ x. value_in x.0 + x.1) z, subst (λ x. Sorted outpoints x.0) z o)
  spend_all_value i (x ∷ xs) m p n q o e =
      let a = then_ok (at_item i (spend opens maturity h (coin_at x.outpoint m) x.witness)) _ (n, q) e in
      let c = a.0 in
      let here : coin_at x.outpoint m ≡ Some c = spend_there (coin_at x.outpoint m) x.witness c (item_ok i _ c a.1) in
      let ih = spend_all_value (i + 1) xs (without x.outpoint m) (p + c.value) n q (sorted_remove outpoints x.outpoint m o) a.2 in
      (omega (arith, value_without x.outpoint c m here, ih.0), ih.1)

module _ (room h : ℕ) where
  coin_value : (y : OutputValue) (b : Bool) (d : ((leb y.value 2100000000000000 ≡ true) × (y.value ≤ 2100000000000000)) ⊎ ((leb y.value 2100000000000000 ≡ false) × (2100000000000000 < y.value))) (c : Coin) → coin_by y.value d y.lock h b ≡ Some c → c.value ≡ y.value
  coin_value y b (inl p) c e = let z : record { value = y.value; lock = y.lock; height = h; coinbase = b; money = p.1 } ≡ c = cc in ap (λ x. x.value) (sym z)
  coin_value y b (inr p) c e = let z : ◌≡◌ {A = ℕ} 0 1 = cc in absurd (omega arith)

  make_value : (id : List ℕ) (i : ℕ) (w : Option Coin) (m n : Coins) → Sorted outpoints m → make room id i w m ≡ Ok n → (c : Coin) × (w ≡ Some c) × (value_in n ≡ c.value + value_in m) × Sorted outpoints n
  make_value id i None m n o e = no_err _ n e
  make_value id i (Some c) m n o e =
      let k : Outpoint = record { id = id; index = i } in
      let a = then_ok (at_item i (of_view (put_answer room k m))) _ n e in
      let free : coin_at k m ≡ None = put_none (coin_at k m) _ a.0 (view_ok (put_answer room k m) a.0 (item_ok i _ a.0 a.1)) in
      let z : with_coin k c m ≡ n = ok_same {F = TransactionFault} _ _ a.2 in
      (c, refl, sym (ap value_in z) ∙ value_with k c m free, subst (Sorted outpoints) z (sorted_insert outpoints k c m o))

  pub make_all_value : (id : List ℕ) (b : Bool) (i : ℕ) (ys : List OutputValue) (m n : Coins) → Sorted outpoints m → make_all room h id b i ys m ≡ Ok n → (value_in n + value_burned ys ≡ value_in m + worth ys) × Sorted outpoints n
  make_all_value id b i [] m n o e = let z : m ≡ n = ok_same {F = TransactionFault} _ _ e in (ap (λ x. value_in x + 0) (sym z), subst (Sorted outpoints) z o)
  make_all_value id b i (y ∷ ys) m n o e =
      let a = then_ok (cond (burns y) (Ok m) (make room id i (coin_of y h b) m)) _ n e in
      go (λ j u r. make_all_value id b (i + 1) ys j n u r) (burns y) refl a.0 a.1 a.2
    where
      go : ((j : Coins) → Sorted outpoints j → make_all room h id b (i + 1) ys j ≡ Ok n → (value_in n + value_burned ys ≡ value_in j + worth ys) × Sorted outpoints n) → (t : Bool) → burns y ≡ t → (j : Coins) → cond t (Ok m) (make room id i (coin_of y h b) m) ≡ Ok j → make_all room h id b (i + 1) ys j ≡ Ok n → (value_in n + value_burned (y ∷ ys) ≡ value_in m + worth (y ∷ ys)) × Sorted outpoints n
      go rest true t j p r =
          let z : m ≡ j = ok_same {F = TransactionFault} _ _ p in
          let ih = rest j (subst (Sorted outpoints) z o) r in
          let v : value_burned (y ∷ ys) ≡ y.value + value_burned ys = ap (λ x. cond x (y.value + value_burned ys) (value_burned ys)) t in
          (omega (arith, v, ih.0, ap value_in z), ih.1)
      go rest false t j p r =
          let w = make_value id i (coin_of y h b) m j o p in
          let c : w.0.value ≡ y.value = coin_value y b (leb_tells y.value 2100000000000000) w.0 w.1 in
          let ih = rest j w.3 r in
          let v : value_burned (y ∷ ys) ≡ value_burned ys = ap (λ x. cond x (y.value + value_burned ys) (value_burned ys)) t in
          (omega (arith, v, ih.0, w.2, c), ih.1)

module _ (s : Setting) (h : ℕ) where
  pub spending_value : (x : TransactionValue) (m n : Coins) (a : Sums) → Sorted outpoints m → spending s h x m ≡ Ok (n, a) → (value_in n + a.fees + a.burned ≡ value_in m) × Sorted outpoints n
  spending_value x m n a o e =
      let p = then_ok (spend_all s.opens s.maturity h 0 x.inputs m 0) _ (n, a) e in
      let t = test_ok (ltb p.0.1 (worth x.outputs)) _ _ (n, a) p.2 in
      let q = then_ok (make_all s.room h x.id false 0 x.outputs p.0.0) _ (n, a) t.1 in
      let v = spend_all_value s.opens s.maturity h 0 x.inputs m 0 p.0.0 p.0.1 o p.1 in
      let w = make_all_value s.room h x.id false 0 x.outputs p.0.0 q.0 v.1 q.1 in
      let z = ok_same {F = TransactionFault} _ _ q.2 in
      let enough : worth x.outputs ≤ p.0.1 = ltb-false _ _ t.0 in
      let fees : a.fees ≡ p.0.1 - worth x.outputs = ap (λ r. r.1.fees) (sym z) in
      let burned : a.burned ≡ value_burned x.outputs = ap (λ r. r.1.burned) (sym z) in
      let same : value_in n ≡ value_in q.0 = ap (λ r. value_in r.0) (sym z) in
      (omega (arith, v.0, w.0, enough, fees, burned, same), subst (λ r. Sorted outpoints r.0) z w.1)

  pub spending_all_value : (t : ℕ) (xs : List TransactionValue) (m : Coins) (a : Sums) (n : Coins) (z : Sums) → Sorted outpoints m → spending_all s h t xs m a ≡ Ok (n, z) → (value_in n + z.fees + z.burned ≡ value_in m + a.fees + a.burned) × Sorted outpoints n
  spending_all_value t [] m a n z o e =
      let y : (m, a) ≡ (n, z) = ok_same {F = BlockFault} _ _ e in
      (ap (λ r. value_in r.0 + r.1.fees + r.1.burned) (sym y), subst (λ r. Sorted outpoints r.0) y o)
  spending_all_value t (x ∷ xs) m a n z o e =
      let p = then_ok (at_transaction t (spending s h x m)) _ (n, z) e in
      let v = spending_value x m p.0.0 p.0.1 o (transaction_ok t _ p.0 p.1) in
      let ih = spending_all_value (t + 1) xs p.0.0 (added a p.0.1) n z v.1 p.2 in
      (omega (arith, v.0, ih.0), ih.1)

  -- the value of the coins, with what was burned, grows by the subsidy
  pub effect_value : (xs : List TransactionValue) (m n : Coins) (a : Sums) → Sorted outpoints m → effect s h xs m ≡ Ok (n, a) → (value_in n + a.burned ≡ value_in m + subsidy_at s.halving h) × Sorted outpoints n
  effect_value [] m n a o e = no_err _ (n, a) e
  effect_value (x ∷ xs) m n a o e =
      let p = then_ok (at_transaction 0 (make_all s.room h x.id true 0 x.outputs m)) _ (n, a) e in
      let v = make_all_value s.room h x.id true 0 x.outputs m p.0 o (transaction_ok 0 _ p.0 p.1) in
      let q = then_ok (spending_all s h 1 xs p.0 none) _ (n, a) p.2 in
      let w = spending_all_value 1 xs p.0 none q.0.0 q.0.1 v.1 q.1 in
      let t = test_ok (ltb (subsidy_at s.halving h + q.0.1.fees) (worth x.outputs)) _ _ (n, a) q.2 in
      let z = ok_same {F = BlockFault} _ _ t.1 in
      let enough : worth x.outputs ≤ subsidy_at s.halving h + q.0.1.fees = ltb-false _ _ t.0 in
      let same : value_in n ≡ value_in q.0.0 = ap (λ r. value_in r.0) (sym z) in
      let burned : a.burned ≡ (subsidy_at s.halving h + q.0.1.fees - worth x.outputs) + value_burned x.outputs + q.0.1.burned = ap (λ r. r.1.burned) (sym z) in
      (omega (arith, v.0, w.0, enough, same, burned), subst (λ r. Sorted outpoints r.0) z w.1)
