use Rattle.std.proofs.Common.{◌≡◌, ◌+◌, ◌*◌, ◌≤◌, ◌∷◌, length, Ok, Err, refl, inl, ap, ◌∙◌, arith, rules}
use Rattle.undo.specs.Entries.{entries}
use Rattle.blockform.specs.Value.{All}
use Rattle.blockform.specs.Readers.{transactions_of, transactions_good}
use Rattle.blockform.proofs.Few.{transactions_few}
use Rattle.connecting.specs.Applied.{Answers, setting, value_of, Moneyed, spending_needs}
use Rattle.connecting.specs.Rules.{added, others_needs, spending}
use Rattle.connecting.specs.declared.fault.TransactionFault.{TransactionFault}
use Rattle.connecting.proofs.Conserved.{placed_ok}
use Rattle.unwinding.proofs.Undone.{taken_twice}
use Rattle.applying.proofs.Applying.{opened, others_applied, others_refused}
use Rattle.applying.proofs.apply_others.Goals as goal

pub loop-before-init-derived : goal.loop-before-init-derived
loop-before-init-derived g c =
    let all = c.into_iter-before-iterator.result in
    let few = transactions_few all.iter (transactions_good _) in
    let none = ap (λ x. x.count) c.into_iter-before-iterator.ensures.into_iter_gives in
    ((tt, tt, inl (omega (arith, c.enumerate-before-items.ensures.count))), tt)

pub loop-before-init : goal.loop-before-init
loop-before-init g c = let few = transactions_few c.args.others (transactions_good _) in search rules

pub apply_spending-requires : goal.apply_spending-requires
apply_spending-requires g c =
    let l = c.loop-before in
    let h = c.in-Some.ensures.steps.0 in
    let o = opened c.in-Some.tx h.0 (transactions_of l.before-iterator.iter) (transactions_of c.next.new.self.iter) h.1 h.2 in
    let moneyed : All Moneyed (value_of c.in-Some.tx ∷ transactions_of c.next.new.self.iter) = rw o.is at l.invariant.money in
    record { well = l.invariant.well; whole = o.whole; money = moneyed.0; room = omega (arith, ap others_needs o.is, l.invariant.long, c.requires.room) }

pub loop-before-preserved : goal.loop-before-preserved
loop-before-preserved g c =
    let v = g.V.CoinsView in
    let a = c.args in
    let s = a.state.now in
    let l = c.loop-before in
    let x = value_of c.in-Some.tx in
    let us = transactions_of c.next.new.self.iter in
    let h = c.in-Some.ensures.steps.0 in
    let o = opened c.in-Some.tx h.0 (transactions_of l.before-iterator.iter) us h.1 h.2 in
    let e = c.apply_spending.ensures in
    let one = c.in_ok-one.one in
    let is = placed_ok c.apply_spending.result c.map_err.result _ one c.map_err.ensures.cases c.in_ok-one.was in
    let few : (one.made ≤ 64) × (one.spent ≤ 64) × (one.fees ≤ 64 * 2100000000000000) × (one.burned ≤ 2100000000000000) = rw is at e.few in
    let long : length (entries c.apply_spending.new.state.undo) ≡ length (entries l.state.undo) + spending_needs x = rw is at e.long in
    let moneyed : All Moneyed (x ∷ us) = rw o.is at l.invariant.money in
    let k = setting (v.most s.view) g.C.SpendCondition.opens a.site.now in
    let value : spending k a.site.now.height x (v.coins l.state.view) ≡ Ok (v.coins c.apply_spending.new.state.view, one) = rw (is, l.invariant.taken.fixed) at e.value in
    rw (c.add-sums.ensures, c.in-Some.ensures.steps.2) (record {
      well = e.well;
      taken = taken_twice v s l.state c.apply_spending.new.state l.invariant.taken e.taken;
      count = omega (arith, l.invariant.count, ap length o.is);
      money = moneyed.1;
      long = omega (arith, l.invariant.long, long, ap others_needs o.is);
      made = omega (arith, l.invariant.made, few.0);
      spent = omega (arith, l.invariant.spent, few.1);
      fees = omega (arith, l.invariant.fees, few.2);
      burned = omega (arith, l.invariant.burned, few.3);
      value = l.invariant.value ∙ others_applied k a.site.now.height (l.before-iterator.count + 1) x (transactions_of l.before-iterator.iter) us (v.coins l.state.view) l.sums o.is (v.coins c.apply_spending.new.state.view) one (added l.sums one) value refl;
    })

pub returns-in_err-one-clause-value : goal.returns-in_err-one-clause-value
returns-in_err-one-clause-value g c =
    let v = g.V.CoinsView in
    let a = c.args in
    let l = c.loop-before in
    let x = value_of c.in-Some.tx in
    let h = c.in-Some.ensures.steps.0 in
    let o = opened c.in-Some.tx h.0 (transactions_of l.before-iterator.iter) (transactions_of c.next.new.self.iter) h.1 h.2 in
    let k = setting (v.most a.state.now.view) g.C.SpendCondition.opens a.site.now in
    let value : Answers (spending k a.site.now.height x (v.coins l.state.view)) c.apply_spending.result (v.coins c.apply_spending.new.state.view) = rw l.invariant.taken.fixed at c.apply_spending.ensures.value in
    let refused = λ (f : TransactionFault) (e : spending k a.site.now.height x (v.coins l.state.view) ≡ Err f). l.invariant.value ∙ others_refused k a.site.now.height (l.before-iterator.count + 1) x (transactions_of l.before-iterator.iter) (transactions_of c.next.new.self.iter) (v.coins l.state.view) l.sums o.is f e in
    search rules
