-- One transaction more, checked and placed. Assumes nothing.
use Rattle.std.proofs.Common.{◌≡◌, ℕ, ◌+◌, ◌≤◌, true, false, cond, List, ◌∷◌, length, IfOk, Ok, Err, Result, sym, refl, ap, ◌∙◌, arith, MatchResult}
use Rattle.blockform.specs.Value.{TransactionValue}
use Rattle.connecting.specs.declared.fault.TransactionFault.{TransactionFault}
use Rattle.connecting.specs.declared.fault.BlockFault.{BlockFault}
use Rattle.connecting.specs.declared.fault.BlockFault.TheVariants.{NoCoinbase, Transaction}
use Rattle.connecting.specs.Rules.{then, at_transaction, is_coinbase, coinbase_checks, spending_checks, others_checks, others_needs, transactions_checks, transactions_needs, coins_made}
use Rattle.connecting.proofs.Conserved.{no_err, ok_same}

-- an answer with its place
pub placed_is : {X : Type 0} (t : ℕ) (r : Result X TransactionFault) (o : Result X BlockFault) → MatchResult r (λ x. o ≡ Ok x) (λ f. o ≡ Err (Transaction t f)) → o ≡ at_transaction t r
placed_is t (Ok x) o h = h
placed_is t (Err f) o h = h

-- a bound on what was answered
pub within : (t n k : ℕ) (r : Result ℕ TransactionFault) (o : Result ℕ BlockFault) → IfOk r (λ m. m ≤ k) → MatchResult r (λ x. o ≡ Ok x) (λ f. o ≡ Err (Transaction t f)) → o ≡ Ok n → n ≤ k
within t n k (Ok m) o b h e = let z : m ≡ n = ok_same {F = BlockFault} m n (sym h ∙ e) in omega arith
within t n k (Err f) o b h e = no_err _ n (sym h ∙ e)

-- a check that answers k, with its place
placed_then : (t k : ℕ) (s : Result Unit TransactionFault) → at_transaction t (then s (λ _. Ok k)) ≡ then (at_transaction t s) (λ _. Ok k)
placed_then t k (Ok u) = refl
placed_then t k (Err f) = refl

module _ (t k : ℕ) (s : Result Unit TransactionFault) (r : Result ℕ TransactionFault) (o : Result ℕ BlockFault) (q : r ≡ then s (λ _. Ok k)) (a : MatchResult r (λ x. o ≡ Ok x) (λ f. o ≡ Err (Transaction t f))) where
  told : o ≡ then (at_transaction t s) (λ _. Ok k)
  told = placed_is t r o a ∙ ap (at_transaction t) q ∙ placed_then t k s

  -- it passed: what follows decides, and k is what was answered
  pub passed : {Y : Type 0} (n : ℕ) (rest : Unit → Result Y BlockFault) → o ≡ Ok n → (then (at_transaction t s) rest ≡ rest tt) × (n ≡ k)
  passed n rest h = go s (sym told ∙ h)
    where
      go : (s : Result Unit TransactionFault) → then (at_transaction t s) (λ _. Ok k) ≡ Ok n → (then (at_transaction t s) rest ≡ rest tt) × (n ≡ k)
      go (Ok tt) e = (refl, sym (ok_same {F = BlockFault} k n e))
      go (Err f) e = no_err _ n e

  -- it was refused, and so is the whole
  pub stopped : {Y : Type 0} (f : BlockFault) (rest : Unit → Result Y BlockFault) → o ≡ Err f → then (at_transaction t s) rest ≡ Err f
  stopped f rest h = go s (sym told ∙ h)
    where
      go : (s : Result Unit TransactionFault) → then (at_transaction t s) (λ _. Ok k) ≡ Err f → then (at_transaction t s) rest ≡ Err f
      go (Ok u) e = absurd (let z : ◌≡◌ {A = ℕ} 0 1 = cc in omega arith)
      go (Err g) e = let z : ◌≡◌ {A = BlockFault} (Transaction t g) f = cc in ap Err z

-- steps that pass a fault on
then_then : {X Y Z F : Type 0} (r : Result X F) (f : X → Result Y F) (g : Y → Result Z F) → then (then r f) g ≡ then r (λ x. then (f x) g)
then_then (Ok x) f g = refl
then_then (Err e) f g = refl

-- the turns of the walk over the transactions after the coinbase
module _ (t needed : ℕ) (ts vs : List TransactionValue) (v : TransactionValue) (r : Result ℕ TransactionFault) (o : Result ℕ BlockFault) (e : ts ≡ v ∷ vs) (q : r ≡ then (spending_checks v) (λ _. Ok (length v.inputs + coins_made v.outputs))) (a : MatchResult r (λ x. o ≡ Ok x) (λ f. o ≡ Err (Transaction t f))) where
  here : then (others_checks t ts) (λ _. Ok (needed + others_needs ts)) ≡ then (at_transaction t (spending_checks v)) (λ u. then (others_checks (t + 1) vs) (λ _. Ok (needed + others_needs (v ∷ vs))))
  here = ap (λ x. then (others_checks t x) (λ _. Ok (needed + others_needs x))) e ∙ then_then (at_transaction t (spending_checks v)) _ _

  pub others_again : (n : ℕ) → o ≡ Ok n → then (others_checks t ts) (λ _. Ok (needed + others_needs ts)) ≡ then (others_checks (t + 1) vs) (λ _. Ok ((needed + n) + others_needs vs))
  others_again n h =
      let p = passed t _ (spending_checks v) r o q a n (λ u. then (others_checks (t + 1) vs) (λ _. Ok (needed + others_needs (v ∷ vs)))) h in
      let z : needed + others_needs (v ∷ vs) ≡ (needed + n) + others_needs vs = omega (arith, p.1) in
      here ∙ p.0 ∙ ap (λ k. then (others_checks (t + 1) vs) (λ _. Ok k)) z

  pub others_stop : (f : BlockFault) → o ≡ Err f → then (others_checks t ts) (λ _. Ok (needed + others_needs ts)) ≡ Err f
  others_stop f h = here ∙ stopped t _ (spending_checks v) r o q a f _ h

-- the coinbase, and then the others
module _ (ts vs : List TransactionValue) (v : TransactionValue) (e : ts ≡ v ∷ vs) where
  -- what the checks of all answer, where the first is a coinbase or not
  pub not_first : is_coinbase v.inputs ≡ false → then (transactions_checks ts) (λ _. Ok (transactions_needs ts)) ≡ Err NoCoinbase
  not_first b = ap (λ x. then (transactions_checks x) (λ _. Ok (transactions_needs x))) e ∙ ap (λ x. then (cond x (then (at_transaction 0 (coinbase_checks v)) (λ _. others_checks 1 vs)) (Err NoCoinbase)) (λ _. Ok (transactions_needs (v ∷ vs)))) b

  module _ (b : is_coinbase v.inputs ≡ true) (r : Result ℕ TransactionFault) (o : Result ℕ BlockFault) (q : r ≡ then (coinbase_checks v) (λ _. Ok (coins_made v.outputs))) (a : MatchResult r (λ x. o ≡ Ok x) (λ f. o ≡ Err (Transaction 0 f))) where
    first : then (transactions_checks ts) (λ _. Ok (transactions_needs ts)) ≡ then (at_transaction 0 (coinbase_checks v)) (λ u. then (others_checks 1 vs) (λ _. Ok (transactions_needs (v ∷ vs))))
    first =
        ap (λ x. then (transactions_checks x) (λ _. Ok (transactions_needs x))) e
        ∙ ap (λ x. then (cond x (then (at_transaction 0 (coinbase_checks v)) (λ _. others_checks 1 vs)) (Err NoCoinbase)) (λ _. Ok (transactions_needs (v ∷ vs)))) b
        ∙ then_then (at_transaction 0 (coinbase_checks v)) _ _

    pub first_stop : (f : BlockFault) → o ≡ Err f → then (transactions_checks ts) (λ _. Ok (transactions_needs ts)) ≡ Err f
    first_stop f h = first ∙ stopped 0 _ (coinbase_checks v) r o q a f _ h

    pub rest_stop : (n : ℕ) (z : Result ℕ BlockFault) (f : BlockFault) → o ≡ Ok n → z ≡ then (others_checks 1 vs) (λ _. Ok (others_needs vs)) → z ≡ Err f → then (transactions_checks ts) (λ _. Ok (transactions_needs ts)) ≡ Err f
    rest_stop n z f h y w = first ∙ (passed 0 _ (coinbase_checks v) r o q a n _ h).0 ∙ go (others_checks 1 vs) (sym y ∙ w)
      where
        go : (s : Result Unit BlockFault) → then s (λ _. Ok (others_needs vs)) ≡ Err f → then s (λ _. Ok (transactions_needs (v ∷ vs))) ≡ Err f
        go (Ok u) x = absurd (let q : ◌≡◌ {A = ℕ} 0 1 = cc in omega arith)
        go (Err g) x = let q : g ≡ f = cc in ap Err q

    pub all_passed : (n m : ℕ) (z : Result ℕ BlockFault) → o ≡ Ok n → z ≡ then (others_checks 1 vs) (λ _. Ok (others_needs vs)) → z ≡ Ok m → then (transactions_checks ts) (λ _. Ok (transactions_needs ts)) ≡ Ok (n + m)
    all_passed n m z h y w = first ∙ (passed 0 _ (coinbase_checks v) r o q a n _ h).0 ∙ go (others_checks 1 vs) (sym y ∙ w)
      where
        k : n ≡ coins_made v.outputs
        k = (passed 0 _ (coinbase_checks v) r o q a {Y = Unit} n (λ u. Ok u) h).1

        go : (s : Result Unit BlockFault) → then s (λ _. Ok (others_needs vs)) ≡ Ok m → then s (λ _. Ok (transactions_needs (v ∷ vs))) ≡ Ok (n + m)
        go (Ok u) x = let l : others_needs vs ≡ m = ok_same {F = BlockFault} _ _ x in ap Ok (omega (arith, k, l))
        go (Err g) x = no_err _ m x
