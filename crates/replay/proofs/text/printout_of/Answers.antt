use Rattle.std.proofs.Common.{sym, ◌∙◌, subst, arith}
use Rattle.replay.specs.PageTurns.{RunsOn, script_calls}
use Rattle.replay.proofs.Collected.{none_yet, one_more, all_done}
use Rattle.replay.proofs.Turning.{begin, go_on, end}
use Rattle.replay.proofs.text.printout_of.Goals as goal

pub loop-line-init : goal.loop-line-init
loop-line-init g c =
    let f = c.in-Ok.ensures in
    let s = c.new-session.ensures in
    let none = c.new-text.ensures.bytes in (
      c.requires,
      f.0,
      s.file.0 ∙ f.1,
      none_yet _ c.args.script.now _ none s.script.0,
      begin g.V.CoinsView g.C.SpendCondition c.args.blocks.now c.args.script.now _ _ _ _ c.args.ledger.now s.script.0 s.script.1 (s.file.1 ∙ f.2) none,
    )

pub loop-line-preserved : goal.loop-line-preserved
loop-line-preserved g c =
    let inv = c.loop-line.invariant in
    let e = c.in-Some.ensures in
    let one = e.turn in
    let t = e.page in
    let more = c.in_ok-append.ensures in (
      e.ok,
      inv.1,
      e.file ∙ inv.2,
      one_more c.in-Some.line _ _ one.0 _ _ _ one.1 more inv.3,
      go_on g.V.CoinsView g.C.SpendCondition c.args.blocks.now _ _ _ _ _ t.0 _ _ _ _ _ c.in-Some.line c.args.ledger.now c.loop-line.ledger c.next_line.new.ledger inv.2 t.1 t.2 t.3 more t.4 inv.4,
    )

pub returns : goal.returns
returns g c =
    let v = g.V.CoinsView in
    let o = g.C.SpendCondition in
    let inv = c.loop-line.invariant in
    let t = c.in_default.ensures in
    let bytes = c.args.blocks.now in
    let script = c.args.script.now in
    let all = end v o bytes script _ _ _ _ c.args.ledger.now c.loop-line.ledger inv.1 t.turn.0 inv.4 in
    record {
      ok = t.ok;
      text = record { long = λ h. absurd (omega (arith, inv.1)); lines = λ h. all_done _ _ _ t.turn.0 inv.3 };
      page = all.1;
      laws = subst (λ z. RunsOn v o bytes (script_calls bytes script) c.args.ledger.now z) (sym t.turn.2) all.0;
      unasked = λ h. absurd (omega (arith, inv.1));
    }
