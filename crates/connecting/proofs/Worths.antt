-- The transactions of a block that passed its checks make no more than the greatest value. Assumes nothing.
use Rattle.std.proofs.Common.{◌≡◌, ℕ, ◌+◌, ◌≤◌, Bool, true, false, cond, ◌&&◌, leb, List, [], ◌∷◌, Ok, Err, Result, refl, arith}
use Rattle.std.proofs.lemmas.Bool.{leb-true, and_parts}
use Rattle.blockform.specs.Value.{OutputValue, TransactionValue, All}
use Rattle.connecting.specs.Applied.{Moneyed}
use Rattle.connecting.specs.Rules.{at_transaction, is_coinbase, worth, money, some_data, some_input, some_output, coinbase_checks, spending_checks, others_checks, transactions_checks}
use Rattle.connecting.proofs.Conserved.{no_err, then_ok, test_ok, transaction_ok}

passed : {X F : Type 0} (b : Bool) (r : Result X F) (e : F) (x : X) → cond b r (Err e) ≡ Ok x → (b ≡ true) × (r ≡ Ok x)
passed true r e x h = (refl, h)
passed false r e x h = no_err e x h

money_within : (i sum : ℕ) (ys : List OutputValue) (u : Unit) → sum ≤ 2100000000000000 → money i sum ys ≡ Ok u → sum + worth ys ≤ 2100000000000000
money_within i sum [] u l e = omega arith
money_within i sum (y ∷ ys) u l e =
    let p = passed (leb y.value 2100000000000000 && leb (sum + y.value) 2100000000000000) (money (i + 1) (sum + y.value) ys) _ u e in
    let less : sum + y.value ≤ 2100000000000000 = leb-true _ _ (and_parts (leb y.value 2100000000000000) _ p.0).1 in
    omega (arith, money_within (i + 1) (sum + y.value) ys u less p.1)

all_within : (ys : List OutputValue) (u : Unit) → money 0 0 ys ≡ Ok u → worth ys ≤ 2100000000000000
all_within ys u e = omega (arith, money_within 0 0 ys u (omega arith) e)

coinbase_moneyed : (x : TransactionValue) (u : Unit) → coinbase_checks x ≡ Ok u → Moneyed x
coinbase_moneyed x u e =
    let p = then_ok (some_data x.inputs) _ u e in
    let q = then_ok (some_output x.outputs) _ u p.2 in
    all_within x.outputs u q.2

spending_moneyed : (x : TransactionValue) (u : Unit) → spending_checks x ≡ Ok u → Moneyed x
spending_moneyed x u e =
    let t = test_ok (is_coinbase x.inputs) _ _ u e in
    let p = then_ok (some_input x.inputs) _ u t.1 in
    let q = then_ok (some_output x.outputs) _ u p.2 in
    let r = then_ok (money 0 0 x.outputs) _ u q.2 in
    all_within x.outputs r.0 r.1

others_moneyed : (t : ℕ) (xs : List TransactionValue) (u : Unit) → others_checks t xs ≡ Ok u → All Moneyed xs
others_moneyed t [] u e = tt
others_moneyed t (x ∷ xs) u e =
    let p = then_ok (at_transaction t (spending_checks x)) _ u e in
    (spending_moneyed x p.0 (transaction_ok t _ p.0 p.1), others_moneyed (t + 1) xs u p.2)

pub checked_moneyed : (xs : List TransactionValue) (u : Unit) → transactions_checks xs ≡ Ok u → All Moneyed xs
checked_moneyed [] u e = tt
checked_moneyed (x ∷ xs) u e =
    let t = passed (is_coinbase x.inputs) _ _ u e in
    let p = then_ok (at_transaction 0 (coinbase_checks x)) _ u t.1 in
    (coinbase_moneyed x p.0 (transaction_ok 0 _ p.0 p.1), others_moneyed 1 xs u p.2)
