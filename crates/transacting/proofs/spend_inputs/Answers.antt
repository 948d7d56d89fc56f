use Rattle.std.proofs.Common.{◌≡◌, ◌+◌, ◌∷◌, length, inl, sym, ◌∙◌, ap, arith, rules}
use Rattle.coins.specs.declared.outpoint.Outpoint.{Outpoint}
use Rattle.undo.specs.Entries.{entries}
use Rattle.blockform.specs.Value.{spends}
use Rattle.blockform.specs.Readers.{items_of, items_good, piece_of}
use Rattle.blockform.proofs.Few.{items_few}
use Rattle.connecting.specs.Parts.{inputs_in}
use Rattle.connecting.proofs.Conserved.{placed_ok}
use Rattle.unwinding.proofs.Undone.{taken_twice}
use Rattle.transacting.proofs.Turns.{input_spent}
use Rattle.transacting.proofs.spend_inputs.Goals as goal

pub loop-item-init-derived : goal.loop-item-init-derived
loop-item-init-derived g c =
    let all = c.into_iter-item-iterator.result in
    let few = items_few all.iter (items_good _) in
    let none = ap (λ x. x.count) c.into_iter-item-iterator.ensures.into_iter_gives in
    ((tt, tt, inl (omega (arith, c.enumerate-item-items.ensures.count))), tt)

pub loop-item-init : goal.loop-item-init
loop-item-init g c = let few = items_few c.args.inputs (items_good _) in search rules

pub loop-item-preserved : goal.loop-item-preserved
loop-item-preserved g c =
    let v = g.V.CoinsView in
    let k = c.args.site.now in
    let l = c.loop-item in
    let s = c.in-Some.ensures.steps in
    let at : Outpoint = record { id = c.in-Input.id.now; index = c.in-Input.index } in
    let coin = c.in_ok-coin.coin in
    let ps = items_of l.item-iterator.iter in
    let qs = items_of c.next.new.self.iter in
    let hands : items_of l.item-iterator.iter ≡ spends (record { outpoint = at; witness = c.in-Input.witness.now }) ∷ items_of c.next.new.self.iter = s.0.0 ∙ ap (λ i. piece_of i ∷ qs) c.in-Input.is in
    let is = placed_ok c.spend.result c.map_err.result _ coin c.map_err.ensures.cases c.in_ok-coin.was in
    let one : length (inputs_in ps) ≡ length (inputs_in qs) + 1 = omega (arith, ap (λ x. length (inputs_in x)) hands) in
    let long : length (entries c.spend.new.state.undo) ≡ length (entries l.state.undo) + 1 = rw is at c.spend.ensures.long in
    let value = input_spent (g.C.SpendCondition.opens k.condition.now) k.maturity k.height l.item-iterator.count at c.in-Input.witness.now ps qs (v.coins l.state.view) l.paid hands coin (v.coins c.spend.new.state.view) (sym is ∙ c.spend.ensures.value) (rw is at c.spend.ensures.map) in
    rw s.2 (record {
      well = c.spend.ensures.well;
      taken = taken_twice v c.args.state.now l.state c.spend.new.state l.invariant.taken c.spend.ensures.taken;
      few = omega (arith, l.invariant.few, ap length hands);
      worth = omega (arith, l.invariant.worth, coin.money);
      long = omega (arith, l.invariant.long, long, one);
      value = l.invariant.value ∙ value;
    })
