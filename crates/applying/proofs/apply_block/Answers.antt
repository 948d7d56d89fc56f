use Rattle.std.proofs.Common.{◌≡◌, ◌+◌, ◌-◌, ◌<◌, ◌≤◌, ◌∷◌, true, length, Ok, Err, refl, sym, ap, ◌∙◌, arith, rules}
use Rattle.undo.specs.Entries.{entries}
use Rattle.blockform.specs.Value.{All}
use Rattle.blockform.specs.Readers.{transactions_of, block_of}
use Rattle.connecting.specs.Applied.{setting, made, value_of, Moneyed}
use Rattle.connecting.specs.Rules.{coins_made, none, spending_all, transactions_needs}
use Rattle.connecting.proofs.Conserved.{placed_ok}
use Rattle.applying.proofs.Applying.{opened, effect_unmade, effect_unspent, effect_claim, effect_done, subsidy_small}
use Rattle.applying.proofs.apply_block.Goals as goal

pub outputs_worth-claimed-requires : goal.outputs_worth-claimed-requires
outputs_worth-claimed-requires g c =
    let h = c.in-Some.ensures.steps in
    let us = transactions_of c.next.new.self in
    let o = opened c.in-Some.first h.0 (block_of c.args.block.now).transactions us h.1 (sym c.transactions-others.ensures.all ∙ h.2) in
    let moneyed : All Moneyed (value_of c.in-Some.first ∷ us) = rw o.is at c.requires.money in
    moneyed.0

pub make_outputs-requires : goal.make_outputs-requires
make_outputs-requires g c =
    let h = c.in-Some.ensures.steps in
    let us = transactions_of c.next.new.self in
    let o = opened c.in-Some.first h.0 (block_of c.args.block.now).transactions us h.1 (sym c.transactions-others.ensures.all ∙ h.2) in
    let moneyed : All Moneyed (value_of c.in-Some.first ∷ us) = rw o.is at c.requires.money in
    record { well = c.requires.well; money = moneyed.0; room = omega (arith, ap transactions_needs o.is, c.requires.room) }

pub returns-in_err-coinbase-clause-value : goal.returns-in_err-coinbase-clause-value
returns-in_err-coinbase-clause-value g c =
    let v = g.V.CoinsView in
    let a = c.args in
    let m = v.coins a.state.now.view in
    let x = value_of c.in-Some.first in
    let h = c.in-Some.ensures.steps in
    let us = transactions_of c.next.new.self in
    let bs = (block_of a.block.now).transactions in
    let o = opened c.in-Some.first h.0 bs us h.1 (sym c.transactions-others.ensures.all ∙ h.2) in
    let refused = effect_unmade (v.most a.state.now.view) g.C.SpendCondition.opens a.site.now x bs us m o.is in
    search rules

pub apply_others-requires : goal.apply_others-requires
apply_others-requires g c =
    let h = c.in-Some.ensures.steps in
    let us = transactions_of c.next.new.self in
    let o = opened c.in-Some.first h.0 (block_of c.args.block.now).transactions us h.1 (sym c.transactions-others.ensures.all ∙ h.2) in
    let moneyed : All Moneyed (value_of c.in-Some.first ∷ us) = rw o.is at c.requires.money in
    let is = placed_ok c.make_outputs.result c.map_err.result _ c.in_ok-coinbase.coinbase c.map_err.ensures.cases c.in_ok-coinbase.was in
    let long : length (entries c.make_outputs.new.state.undo) ≡ length (entries c.args.state.now.undo) + coins_made (value_of c.in-Some.first).outputs = rw is at c.make_outputs.ensures.long in
    record { well = c.make_outputs.ensures.well; money = moneyed.1; room = omega (arith, ap transactions_needs o.is, c.requires.room, long) }

pub returns-in_err-apply_others-clause-value : goal.returns-in_err-apply_others-clause-value
returns-in_err-apply_others-clause-value g c =
    let v = g.V.CoinsView in
    let a = c.args in
    let m = v.coins a.state.now.view in
    let x = value_of c.in-Some.first in
    let h = c.in-Some.ensures.steps in
    let us = transactions_of c.next.new.self in
    let bs = (block_of a.block.now).transactions in
    let o = opened c.in-Some.first h.0 bs us h.1 (sym c.transactions-others.ensures.all ∙ h.2) in
    let coinbase = c.in_ok-coinbase.coinbase in
    let n = v.coins c.make_outputs.new.state.view in
    let is = placed_ok c.make_outputs.result c.map_err.result _ coinbase c.map_err.ensures.cases c.in_ok-coinbase.was in
    let e : made (v.most a.state.now.view) a.site.now x.id true x.outputs m ≡ Ok (n, coinbase) = rw is at c.make_outputs.ensures.value in
    let k = setting (v.most a.state.now.view) g.C.SpendCondition.opens a.site.now in
    let rest : spending_all k a.site.now.height 1 us n none ≡ Err c.in_err-apply_others.field-0.0 = rw c.make_outputs.ensures.taken.fixed at c.in_err-apply_others.ensures.value in
    let refused = effect_unspent (v.most a.state.now.view) g.C.SpendCondition.opens a.site.now x bs us m o.is n coinbase e _ rest in
    search rules

pub add-sums-requires : goal.add-sums-requires
add-sums-requires g c =
    let one = c.in_ok-coinbase.coinbase in
    let is = placed_ok c.make_outputs.result c.map_err.result _ one c.map_err.ensures.cases c.in_ok-coinbase.was in
    let few : (one.made ≤ 64) × (one.spent ≡ 0) × (one.fees ≡ 0) × (one.burned ≤ 2100000000000000) = rw is at c.make_outputs.ensures.few in
    let rest = c.in_ok-apply_others.ensures.few in
    (omega (arith, few.0, rest.0), omega (arith, few.1, rest.1), omega (arith, few.2, rest.2), omega (arith, few.3, rest.3))

pub overflow_add-due : goal.overflow_add-due
overflow_add-due g c =
    let small = subsidy_small c.args.site.now.halving c.args.site.now.height in
    let one = c.in_ok-coinbase.coinbase in
    let is = placed_ok c.make_outputs.result c.map_err.result _ one c.map_err.ensures.cases c.in_ok-coinbase.was in
    let few : (one.made ≤ 64) × (one.spent ≡ 0) × (one.fees ≡ 0) × (one.burned ≤ 2100000000000000) = rw is at c.make_outputs.ensures.few in
    let rest = c.in_ok-apply_others.ensures.few in
    omega (arith, small, c.subsidy.ensures, rest.2, few.2, ap (λ y. y.fees) c.add-sums.ensures)

pub returns-in_err-unclaimed-clause-value : goal.returns-in_err-unclaimed-clause-value
returns-in_err-unclaimed-clause-value g c =
    let v = g.V.CoinsView in
    let a = c.args in
    let m = v.coins a.state.now.view in
    let x = value_of c.in-Some.first in
    let h = c.in-Some.ensures.steps in
    let us = transactions_of c.next.new.self in
    let bs = (block_of a.block.now).transactions in
    let o = opened c.in-Some.first h.0 bs us h.1 (sym c.transactions-others.ensures.all ∙ h.2) in
    let coinbase = c.in_ok-coinbase.coinbase in
    let n = v.coins c.make_outputs.new.state.view in
    let is = placed_ok c.make_outputs.result c.map_err.result _ coinbase c.map_err.ensures.cases c.in_ok-coinbase.was in
    let e : made (v.most a.state.now.view) a.site.now x.id true x.outputs m ≡ Ok (n, coinbase) = rw is at c.make_outputs.ensures.value in
    let k = setting (v.most a.state.now.view) g.C.SpendCondition.opens a.site.now in
    let rest : spending_all k a.site.now.height 1 us n none ≡ Ok (v.coins c.apply_others.new.state.view, c.in_ok-apply_others.field-0) = rw c.make_outputs.ensures.taken.fixed at c.in_ok-apply_others.ensures.value in
    let due = c.subsidy.result + c.add-sums.result.fees in
    let less : due < c.outputs_worth-claimed.result = search rules in
    let refused = effect_claim (v.most a.state.now.view) g.C.SpendCondition.opens a.site.now x bs us m o.is n coinbase e (v.coins c.apply_others.new.state.view) c.in_ok-apply_others.field-0 c.add-sums.result rest c.add-sums.ensures (omega (arith, less, c.subsidy.ensures, c.outputs_worth-claimed.ensures)) in
    search rules

pub overflow_add-result : goal.overflow_add-result
overflow_add-result g c =
    let due = c.subsidy.result + c.add-sums.result.fees in
    let claimed = c.outputs_worth-claimed.result in
    let left : (claimed ≤ due) × (c.in_ok-unclaimed.unclaimed ≡ due - claimed) = search rules in
    let small = subsidy_small c.args.site.now.halving c.args.site.now.height in
    let one = c.in_ok-coinbase.coinbase in
    let is = placed_ok c.make_outputs.result c.map_err.result _ one c.map_err.ensures.cases c.in_ok-coinbase.was in
    let few : (one.made ≤ 64) × (one.spent ≡ 0) × (one.fees ≡ 0) × (one.burned ≤ 2100000000000000) = rw is at c.make_outputs.ensures.few in
    let rest = c.in_ok-apply_others.ensures.few in
    omega (arith, left.1, small, c.subsidy.ensures, rest.2, rest.3, few.2, few.3, ap (λ y. y.fees) c.add-sums.ensures, ap (λ y. y.burned) c.add-sums.ensures)

pub returns-clause-value : goal.returns-clause-value
returns-clause-value g c =
    let v = g.V.CoinsView in
    let a = c.args in
    let m = v.coins a.state.now.view in
    let x = value_of c.in-Some.first in
    let h = c.in-Some.ensures.steps in
    let us = transactions_of c.next.new.self in
    let bs = (block_of a.block.now).transactions in
    let o = opened c.in-Some.first h.0 bs us h.1 (sym c.transactions-others.ensures.all ∙ h.2) in
    let coinbase = c.in_ok-coinbase.coinbase in
    let n = v.coins c.make_outputs.new.state.view in
    let is = placed_ok c.make_outputs.result c.map_err.result _ coinbase c.map_err.ensures.cases c.in_ok-coinbase.was in
    let e : made (v.most a.state.now.view) a.site.now x.id true x.outputs m ≡ Ok (n, coinbase) = rw is at c.make_outputs.ensures.value in
    let k = setting (v.most a.state.now.view) g.C.SpendCondition.opens a.site.now in
    let rest : spending_all k a.site.now.height 1 us n none ≡ Ok (v.coins c.apply_others.new.state.view, c.in_ok-apply_others.field-0) = rw c.make_outputs.ensures.taken.fixed at c.in_ok-apply_others.ensures.value in
    let due = c.subsidy.result + c.add-sums.result.fees in
    let claimed = c.outputs_worth-claimed.result in
    let left : (claimed ≤ due) × (c.in_ok-unclaimed.unclaimed ≡ due - claimed) = search rules in
    effect_done (v.most a.state.now.view) g.C.SpendCondition.opens a.site.now x bs us m o.is n coinbase e (v.coins c.apply_others.new.state.view) c.in_ok-apply_others.field-0 c.add-sums.result rest c.add-sums.ensures _ (omega (arith, left.0, c.subsidy.ensures, c.outputs_worth-claimed.ensures)) refl refl refl (omega (arith, left.1, c.subsidy.ensures, c.outputs_worth-claimed.ensures))

pub returns-clause-long : goal.returns-clause-long
returns-clause-long g c =
    let h = c.in-Some.ensures.steps in
    let us = transactions_of c.next.new.self in
    let o = opened c.in-Some.first h.0 (block_of c.args.block.now).transactions us h.1 (sym c.transactions-others.ensures.all ∙ h.2) in
    let is = placed_ok c.make_outputs.result c.map_err.result _ c.in_ok-coinbase.coinbase c.map_err.ensures.cases c.in_ok-coinbase.was in
    let long : length (entries c.make_outputs.new.state.undo) ≡ length (entries c.args.state.now.undo) + coins_made (value_of c.in-Some.first).outputs = rw is at c.make_outputs.ensures.long in
    omega (arith, ap transactions_needs o.is, c.in_ok-apply_others.ensures.long, long)
