use Rattle.std.proofs.Common.{◌≡◌, ◌+◌, ◌*◌, ◌≤◌, length}
use Rattle.undo.specs.Entries.{entries}
use Rattle.blockform.specs.Value.{All}
use Rattle.blockform.specs.Readers.{transactions_of}
use Rattle.connecting.specs.Applied.{setting, Moneyed}
use Rattle.connecting.specs.Rules.{others_needs, none, spending_all}
use Rattle.unwinding.specs.TakenBack.{TakenBack}
use Rattle.applying.proofs.apply_others.Given as goal

-- what is left answers what the whole answers, and the way back leads to where it led
abbrev pub invariant-loop-before : goal.invariant-loop-before
invariant-loop-before g l =
    let v = g.V.CoinsView in
    let s = l.initial.state in
    let k = setting (v.most s.view) g.C.SpendCondition.opens l.site in
    let h = l.site.height in
    let t = l.before-iterator.count in
    let left = transactions_of l.before-iterator.iter in
    record {
      well : v.ok l.state.view;
      taken : TakenBack v s l.state;
      count : t + length left ≤ 64;
      money : All Moneyed left;
      long : length (entries l.state.undo) + others_needs left ≡ length (entries s.undo) + others_needs (transactions_of l.fn.others);
      made : l.sums.made ≤ t * 64;
      spent : l.sums.spent ≤ t * 64;
      fees : l.sums.fees ≤ t * 134400000000000000;
      burned : l.sums.burned ≤ t * 2100000000000000;
      value : spending_all k h 1 (transactions_of l.fn.others) (v.coins s.view) none ≡ spending_all k h (t + 1) left (v.coins l.state.view) l.sums;
    }
