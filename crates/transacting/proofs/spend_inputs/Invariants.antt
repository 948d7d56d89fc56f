use Rattle.std.proofs.Common.{◌≡◌, ◌+◌, ◌*◌, ◌≤◌, length}
use Rattle.undo.specs.Entries.{entries}
use Rattle.blockform.specs.Readers.{items_of}
use Rattle.connecting.specs.Parts.{inputs_in}
use Rattle.connecting.specs.Rules.{spend_all}
use Rattle.unwinding.specs.TakenBack.{TakenBack}
use Rattle.transacting.proofs.spend_inputs.Given as goal

-- what is left answers what the whole answers, and the way back leads to where it led
abbrev pub invariant-loop-item : goal.invariant-loop-item
invariant-loop-item g l =
    let v = g.V.CoinsView in
    let s = l.initial.state in
    let k = l.site in
    let opens = g.C.SpendCondition.opens k.condition.now in
    let all = inputs_in (items_of l.fn.inputs) in
    let i = l.item-iterator.count in
    let left = inputs_in (items_of l.item-iterator.iter) in
    record {
      well : v.ok l.state.view;
      taken : TakenBack v s l.state;
      few : i + length (items_of l.item-iterator.iter) ≤ 64;
      worth : l.paid ≤ i * 2100000000000000;
      long : length (entries l.state.undo) + length left ≡ length (entries s.undo) + length all;
      value : spend_all opens k.maturity k.height 0 all (v.coins s.view) 0 ≡ spend_all opens k.maturity k.height i left (v.coins l.state.view) l.paid;
    }
