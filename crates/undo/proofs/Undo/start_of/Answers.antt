use Rattle.std.proofs.Common.{◌+◌, ◌-◌, length-take, arith}
use Rattle.undo.specs.Entries.{entries}
use Rattle.undo.proofs.Kept.{passed_more, passed_all}
use Rattle.undo.proofs.Undo.start_of.Goals as goal

pub returns-in_default-clause-place : goal.returns-in_default-clause-place
unfolding entries
returns-in_default-clause-place c =
    let l = c.loop-block in
    passed_all c.args.blocks l.at _ (c.args.blocks - (l._block + 1)) c.args.self.now.records.items (omega arith) l.invariant.passed (rw c.deref.ensures.0 at c.in_default.ensures)

pub loop-block-preserved : goal.loop-block-preserved
loop-block-preserved c =
    let l = c.loop-block in
    let e = rw c.deref.ensures.0 at c.in-Some.ensures in
    record {
      within = omega (arith, length-take l.at c.args.self.now.records.items);
      passed = passed_more c.args.blocks l.at _ (c.args.blocks - (l._block + 1)) c.args.self.now.records.items (omega arith) l.invariant.passed c.in-Some.mark e;
    }
