use Rattle.std.proofs.Common.{◌≡◌, ◌≤◌, length, IfOk, Ok, Err, sym, ap, ◌∙◌, subst, arith, rules}
use Rattle.std.proofs.lemmas.Result.{err_from_is_err_and}
use Rattle.blockform.specs.Readers.{items_of, Hands}
use Rattle.blockform.specs.Value.{TransactionValue}
use Rattle.blockform.specs.declared.reader.Transaction.{Transaction}
use Rattle.connecting.specs.Parts.{inputs_in}
use Rattle.connecting.specs.Rules.{then, is_coinbase, transactions_checks, transactions_needs}
use Rattle.connecting.proofs.Tests.{reads}
use Rattle.checking.proofs.Steps.{within, not_first, first_stop, rest_stop, all_passed}
use Rattle.checking.proofs.check_transactions.Goals as goal

-- whether the first transaction is a coinbase, by what was asked of its inputs
first_is : (t : Transaction) (v : TransactionValue) (b : _) → Hands t v → (length (inputs_in (items_of t.inputs)) ≡ length (items_of t.inputs) → b ≡ is_coinbase (inputs_in (items_of t.inputs))) → b ≡ is_coinbase v.inputs
first_is t v b h f = let r = reads t v h in f (ap length r.inputs ∙ sym r.input_count) ∙ ap is_coinbase r.inputs

pub returns-in_default : goal.returns-in_default
returns-in_default c = record { is = sym (ap (λ x. then (transactions_checks x) (λ _. Ok (transactions_needs x))) c.in_default.ensures.steps.0); few = tt }

pub returns-then-not-is_coinbase : goal.returns-then-not-is_coinbase
returns-then-not-is_coinbase c =
    let h = c.in-Some.ensures.steps in
    let b = first_is _ h.0 _ h.1 c.is_coinbase.ensures in
    record { is = sym (not_first _ _ h.0 h.2 (sym b ∙ c.if-not-is_coinbase.true)); few = tt }

pub returns-in_err-made : goal.returns-in_err-made
returns-in_err-made c =
    let h = c.in-Some.ensures.steps in
    let b = first_is _ h.0 _ h.1 c.is_coinbase.ensures in
    let p = err_from_is_err_and c.from_residual.result c.from_residual.ensures.1 in
    record {
      is = p.1 ∙ ap Err p.2 ∙ sym (first_stop _ _ h.0 h.2 (sym b ∙ c.if-not-is_coinbase.false) _ _ (c.check_coinbase.ensures.is h.0 h.1) (search rules) _ c.in_err-made.was);
      few = subst (λ r. IfOk r (λ n. n ≤ 8256)) (sym p.1) tt;
    }

pub returns-in_err-needed : goal.returns-in_err-needed
returns-in_err-needed c =
    let h = c.in-Some.ensures.steps in
    let b = first_is _ h.0 _ h.1 c.is_coinbase.ensures in
    let p = err_from_is_err_and c.from_residual-in_err-needed.result c.from_residual-in_err-needed.ensures.1 in
    record {
      is = p.1 ∙ ap Err p.2 ∙ sym (rest_stop _ _ h.0 h.2 (sym b ∙ c.if-not-is_coinbase.false) _ _ (c.check_coinbase.ensures.is h.0 h.1) (search rules) _ _ _ c.in_ok-made.was c.check_others.ensures.is c.in_err-needed.was);
      few = subst (λ r. IfOk r (λ n. n ≤ 8256)) (sym p.1) tt;
    }

pub returns : goal.returns
returns c =
    let h = c.in-Some.ensures.steps in
    let b = first_is _ h.0 _ h.1 c.is_coinbase.ensures in
    let one = within 0 _ 64 _ _ c.check_coinbase.ensures.few (search rules) c.in_ok-made.was in
    record {
      is = sym (all_passed _ _ h.0 h.2 (sym b ∙ c.if-not-is_coinbase.false) _ _ (c.check_coinbase.ensures.is h.0 h.1) (search rules) _ _ _ c.in_ok-made.was c.check_others.ensures.is c.in_ok-needed.was);
      few = omega (arith, one, c.in_ok-needed.ensures.few);
    }
