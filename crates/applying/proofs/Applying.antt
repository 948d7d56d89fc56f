-- A transaction and a block, applied step by step. Assumes nothing.
use Rattle.std.proofs.Common.{◌≡◌, ℕ, zero, suc, ◌+◌, ◌-◌, ◌/◌, ◌<◌, ◌≤◌, Bool, true, false, ltb, List, ◌∷◌, length, Ok, Err, Result, sym, refl, ap, ◌∙◌, div-le_self, arith, lt-ltb}
use Rattle.std.proofs.lemmas.Bool.{le-ltb}
use Rattle.coins.specs.declared.coin.Lock.{Lock}
use Rattle.coinsview.specs.Meaning.{Coins}
use Rattle.blockform.specs.declared.reader.Transaction.{Transaction}
use Rattle.blockform.specs.Value.{OutputValue, TransactionValue}
use Rattle.blockform.specs.Readers.{items_of, Hands}
use Rattle.connecting.specs.declared.fault.TransactionFault.{TransactionFault}
use Rattle.connecting.specs.declared.fault.BlockFault.{BlockFault}
use Rattle.connecting.specs.declared.fault.BlockFault.TheVariants.{Claim, Transaction as Of}
use Rattle.connecting.specs.declared.block.Sums.{Sums}
use Rattle.connecting.specs.Subsidy.{halved, subsidy_at}
use Rattle.connecting.specs.Parts.{inputs_in}
use Rattle.connecting.specs.declared.block.Site.{Site}
use Rattle.connecting.specs.Applied.{value_of, setting, made, outputs_sums}
use Rattle.connecting.specs.Rules.{Setting, then, worth, make_all, none, added, spending, spending_all, whole, effect}
use Rattle.connecting.proofs.Conserved.{no_err, ok_same}
use Rattle.connecting.proofs.Tests.{reads}

-- a transaction that a reader handed out
pub record Opened (t : Transaction) (ts us : List TransactionValue) : Type 0 where
  pub is : ts ≡ value_of t ∷ us
  pub whole : length (inputs_in (items_of t.inputs)) ≡ length (items_of t.inputs)

pub opened : (t : Transaction) (v : TransactionValue) (ts us : List TransactionValue) → Hands t v → ts ≡ v ∷ us → Opened t ts us
opened t v ts us h e =
    let r = reads t v h in
    let same : v ≡ value_of t = λ i. record { id = sym h.id i; inputs = sym r.inputs i; outputs = sym r.outputs i } in
    record { is = e ∙ ap (λ x. x ∷ us) same; whole = ap length r.inputs ∙ sym r.input_count }

-- the next transaction after the coinbase
module _ (s : Setting) (h t : ℕ) (x : TransactionValue) (ts us : List TransactionValue) (m : Coins) (a : Sums) (is : ts ≡ x ∷ us) where
  pub others_applied : (n : Coins) (b z : Sums) → spending s h x m ≡ Ok (n, b) → z ≡ added a b → spending_all s h t ts m a ≡ spending_all s h (t + 1) us n z
  others_applied n b z e sum = rw (is, e, sum) refl

  pub others_refused : (f : TransactionFault) → spending s h x m ≡ Err f → spending_all s h t ts m a ≡ Err (Of t f)
  others_refused f e = rw (is, e) refl

-- outputs made, with what they come to
made_ok : (r : Result Coins TransactionFault) (ys : List OutputValue) (n : Coins) (b : Sums) → then {Y = Coins × Sums} r (λ k. Ok (k, outputs_sums ys)) ≡ Ok (n, b) → (r ≡ Ok n) × (b ≡ outputs_sums ys)
made_ok (Ok k) ys n b e =
    let z : (k, outputs_sums ys) ≡ (n, b) = ok_same {F = TransactionFault} _ _ e in (ap (λ p. Ok p.0) z, ap (λ p. p.1) (sym z))
made_ok (Err f) ys n b e = no_err f (n, b) e

made_err : (r : Result Coins TransactionFault) (ys : List OutputValue) (f : TransactionFault) → then {Y = Coins × Sums} r (λ k. Ok (k, outputs_sums ys)) ≡ Err f → r ≡ Err f
made_err (Ok k) ys f e = no_err f (k, outputs_sums ys) (sym e)
made_err (Err g) ys f e = let z : g ≡ f = cc in ap Err z

sums_same : (a b : Sums) → a.made ≡ b.made → a.spent ≡ b.spent → a.fees ≡ b.fees → a.burned ≡ b.burned → a ≡ b
sums_same a b m s f u = λ i. record { made = m i; spent = s i; fees = f i; burned = u i }

-- a block, by how far it came
module _ {C : Type 0} (room : ℕ) (opens : C → Lock → List ℕ → ℕ → Bool) (site : Site C) (x : TransactionValue) (ts us : List TransactionValue) (m : Coins) (is : ts ≡ x ∷ us) where
  abbrev s : Setting
  s = setting room opens site

  abbrev h : ℕ
  h = site.height

  pub effect_unmade : (f : TransactionFault) → made room site x.id true x.outputs m ≡ Err f → effect s h ts m ≡ Err (Of 0 f)
  effect_unmade f e = rw (is, made_err _ x.outputs f e) refl

  module _ (n : Coins) (b : Sums) (e : made room site x.id true x.outputs m ≡ Ok (n, b)) where
    first : make_all room h x.id true 0 x.outputs m ≡ Ok n
    first = (made_ok _ x.outputs n b e).0

    pub effect_unspent : (f : BlockFault) → spending_all s h 1 us n none ≡ Err f → effect s h ts m ≡ Err f
    effect_unspent f q = rw (is, first, q) refl

    module _ (k : Coins) (a z : Sums) (q : spending_all s h 1 us n none ≡ Ok (k, a)) (sum : z ≡ added b a) where
      sums : z ≡ added (outputs_sums x.outputs) a
      sums = sum ∙ ap (λ y. added y a) (made_ok _ x.outputs n b e).1

      pub effect_claim : subsidy_at site.halving h + z.fees < worth x.outputs → effect s h ts m ≡ Err Claim
      effect_claim less =
          let l : ltb (subsidy_at site.halving h + a.fees) (worth x.outputs) ≡ true = lt-ltb _ _ (omega (arith, less, ap (λ y. y.fees) sums)) in
          rw (is, first, q, l) refl

      pub effect_done : (w : Sums) → worth x.outputs ≤ subsidy_at site.halving h + z.fees → w.made ≡ z.made → w.spent ≡ z.spent → w.fees ≡ z.fees → w.burned ≡ (subsidy_at site.halving h + z.fees - worth x.outputs) + z.burned → effect s h ts m ≡ Ok (k, w)
      effect_done w enough made spent fees burned =
          let l : ltb (subsidy_at site.halving h + a.fees) (worth x.outputs) ≡ false = le-ltb _ _ (omega (arith, enough, ap (λ y. y.fees) sums)) in
          let same : w ≡ whole s h x a = sums_same _ _ (made ∙ ap (λ y. y.made) sums) (omega (arith, spent, ap (λ y. y.spent) sums)) (omega (arith, fees, ap (λ y. y.fees) sums)) (omega (arith, burned, ap (λ y. y.fees) sums, ap (λ y. y.burned) sums)) in
          rw (is, first, q, l, same) refl

-- the subsidy is never above its first amount
halved_less : (k n : ℕ) → halved k n ≤ n
halved_less zero n = omega arith
halved_less (suc k) n = omega (arith, halved_less k (n / 2), div-le_self n 2)

pub subsidy_small : (interval height : ℕ) → subsidy_at interval height ≤ 5000000000
subsidy_small interval height = halved_less (height / interval) 5000000000
