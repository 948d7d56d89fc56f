use Rattle.std.proofs.Common.{◌≡◌, ◌+◌, ◌≤◌, length}
use Rattle.undo.specs.Entries.{entries}
use Rattle.blockform.specs.Readers.{items_of}
use Rattle.connecting.specs.Parts.{outputs_in}
use Rattle.connecting.specs.Rules.{worth, coins_made, value_burned, make_all}
use Rattle.unwinding.specs.TakenBack.{TakenBack}
use Rattle.transacting.proofs.make_outputs.Given as goal

-- what is left answers what the whole answers, and the way back leads to where it led
abbrev pub invariant-loop-index : goal.invariant-loop-index
invariant-loop-index g l =
    let v = g.V.CoinsView in
    let s = l.initial.state in
    let all = outputs_in (items_of l.tx.outputs) in
    let i = l.index-iterator.count in
    let left = outputs_in (items_of l.index-iterator.iter) in
    record {
      well : v.ok l.state.view;
      taken : TakenBack v s l.state;
      few : i + length (items_of l.index-iterator.iter) ≤ 64;
      made : l.sums.made ≤ i;
      spent : l.sums.spent ≡ 0;
      fees : l.sums.fees ≡ 0;
      worth : l.sums.burned + worth left ≤ 2100000000000000;
      coins : coins_made all ≡ l.sums.made + coins_made left;
      burned : value_burned all ≡ l.sums.burned + value_burned left;
      long : length (entries l.state.undo) ≡ length (entries s.undo) + l.sums.made;
      value : make_all (v.most s.view) l.site.height l.tx.id.now l.coinbase 0 all (v.coins s.view) ≡ make_all (v.most s.view) l.site.height l.tx.id.now l.coinbase i left (v.coins l.state.view);
    }
