use Rattle.std.proofs.Common.{◌≡◌, ◌∷◌, length, inl, ◌∙◌, ap, arith, rules}
use Rattle.blockform.specs.Value.{OutputValue, makes}
use Rattle.blockform.specs.Readers.{items_of, items_good, piece_of}
use Rattle.blockform.proofs.Few.{items_few}
use Rattle.unwinding.proofs.Undone.{taken_twice}
use Rattle.transacting.proofs.Turns.{output_worth, coin_made, coin_value, coin_leaves}
use Rattle.transacting.proofs.make_outputs.Goals as goal

pub loop-index-init-derived : goal.loop-index-init-derived
loop-index-init-derived g c =
    let all = c.into_iter-index-iterator.result in
    let few = items_few all.iter (items_good _) in
    let none = ap (λ x. x.count) c.into_iter-index-iterator.ensures.into_iter_gives in
    ((tt, tt, inl (omega (arith, c.enumerate-index-items.ensures.count))), tt)

pub loop-index-init : goal.loop-index-init
loop-index-init g c = let few = items_few c.args.tx.now.outputs (items_good _) in search rules

pub loop-index-preserved : goal.loop-index-preserved
loop-index-preserved g c =
    let v = g.V.CoinsView in
    let a = c.args in
    let s = a.state.now in
    let l = c.loop-index in
    let i = l.index-iterator.count in
    let y : OutputValue = record { value = c.in-Output.value; lock = c.in-Output.lock } in
    let ps = items_of l.index-iterator.iter in
    let qs = items_of c.next.new.self.iter in
    let t = c.in-Some.ensures.steps in
    let hands : items_of l.index-iterator.iter ≡ makes y ∷ items_of c.next.new.self.iter = t.0.0 ∙ ap (λ i. piece_of i ∷ qs) c.in-Output.is in
    let room = v.most s.view in
    let m = v.coins l.state.view in
    let h = a.site.now.height in
    let id = a.tx.now.id.now in
    let kind = c.if-lock-eq0.false in
    let e = c.in_ok-make.ensures in
    let worth = output_worth room h i id a.coinbase y ps qs m hands in
    let coins = coin_made room h i id a.coinbase y ps qs m hands kind in
    let value = coin_value room h i id a.coinbase y ps qs m hands kind in
    let leaves = coin_leaves room h i id a.coinbase y ps qs m hands kind (v.coins c.make.new.state.view) (rw (l.invariant.taken.fixed, c.made_coin.ensures, t.1) at e.value) in
    rw t.2 (record {
      well = e.well;
      taken = taken_twice v s l.state c.make.new.state l.invariant.taken e.taken;
      few = omega (arith, l.invariant.few, ap length hands);
      made = omega (arith, l.invariant.made);
      spent = l.invariant.spent;
      fees = l.invariant.fees;
      worth = omega (arith, l.invariant.worth, worth);
      coins = omega (arith, l.invariant.coins, coins);
      burned = omega (arith, l.invariant.burned, value);
      long = omega (arith, l.invariant.long, e.long);
      value = l.invariant.value ∙ leaves;
    })
