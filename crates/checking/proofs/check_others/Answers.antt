use Rattle.std.proofs.Common.{◌≡◌, ◌+◌, ◌≤◌, length, IfOk, Ok, Err, inl, sym, ap, ◌∙◌, subst, arith, rules}
use Rattle.std.proofs.lemmas.Result.{err_from_is_err_and}
use Rattle.blockform.specs.Readers.{transactions_of, transactions_good}
use Rattle.blockform.proofs.Few.{transactions_few}
use Rattle.connecting.specs.Rules.{then, others_checks, others_needs}
use Rattle.checking.proofs.Steps.{within, others_again, others_stop}
use Rattle.checking.proofs.check_others.Goals as goal

pub loop-before-init-derived : goal.loop-before-init-derived
loop-before-init-derived c =
    let all = c.into_iter-before-iterator.result in
    let few = transactions_few all.iter (transactions_good _) in
    let none = ap (λ x. x.count) c.into_iter-before-iterator.ensures.into_iter_gives in
    ((tt, tt, inl (omega (arith, c.enumerate-before-items.ensures.count))), tt)

pub loop-before-init : goal.loop-before-init
loop-before-init c = let few = transactions_few c.args.others (transactions_good _) in search rules

pub loop-before-preserved : goal.loop-before-preserved
loop-before-preserved c =
    let l = c.loop-before in
    let s = c.in-Some.ensures.steps in
    let h = s.0 in
    let k = c.in-Some.before in
    let few = within (k + 1) _ 128 _ _ c.check_spending.ensures.few (search rules) c.in_ok-needed.was in
    let placed = ap (λ k. then (others_checks (k + 1) (transactions_of l.before-iterator.iter)) (λ _. Ok (l.needed + others_needs (transactions_of l.before-iterator.iter)))) (sym s.1) in
    let next : k + 1 ≡ c.next.new.self.count = omega (arith, s.1, s.2) in (
      omega (arith, l.invariant.0, s.2, ap length h.2),
      omega (arith, few, l.invariant.1, s.2),
      l.invariant.2 ∙ placed ∙ others_again (k + 1) l.needed _ _ h.0 _ _ h.2 (c.check_spending.ensures.is h.0 h.1) (search rules) _ c.in_ok-needed.was ∙ ap (λ m. then (others_checks (m + 1) (transactions_of c.next.new.self.iter)) (λ _. Ok ((l.needed + c.in_ok-needed.field-0) + others_needs (transactions_of c.next.new.self.iter)))) next,
    )

pub returns-in_err-needed : goal.returns-in_err-needed
returns-in_err-needed c =
    let l = c.loop-before in
    let s = c.in-Some.ensures.steps in
    let h = s.0 in
    let k = c.in-Some.before in
    let p = err_from_is_err_and c.from_residual.result c.from_residual.ensures.1 in
    let placed = ap (λ k. then (others_checks (k + 1) (transactions_of l.before-iterator.iter)) (λ _. Ok (l.needed + others_needs (transactions_of l.before-iterator.iter)))) (sym s.1) in
    record {
      is = p.1 ∙ ap Err p.2 ∙ sym (l.invariant.2 ∙ placed ∙ others_stop (k + 1) l.needed _ _ h.0 _ _ h.2 (c.check_spending.ensures.is h.0 h.1) (search rules) _ c.in_err-needed.was);
      few = subst (λ r. IfOk r (λ n. n ≤ 8192)) (sym p.1) tt;
    }
