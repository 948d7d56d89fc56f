use Rattle.std.proofs.Common.{◌≡◌, take, subst, arith}
use Rattle.ledger.specs.Laws.{Laws}
use Rattle.ledger.specs.PageLaws.{PageLaws}
use Rattle.ledger.proofs.Running.{runs_none, runs_more, runs_laws}
use Rattle.ledger.proofs.PageRunning.{laws_none, laws_next}
use Rattle.ledger.proofs.Ledger.run.Goals as goal

pub loop-i-init : goal.loop-i-init
loop-i-init g c =
    let v = g.V.CoinsView in
    let o = g.C.SpendCondition in
    let bytes = c.args.bytes.now in
    let a = c.args.self.now in record {
      ok = c.requires;
      book = λ k s. runs_none v o k bytes c.args.calls.now c.args.answers.now a s;
      page = λ p s. laws_none v o p bytes a s;
    }

pub loop-i-preserved : goal.loop-i-preserved
loop-i-preserved g c =
    let v = g.V.CoinsView in
    let o = g.C.SpendCondition in
    let bytes = c.args.bytes.now in
    let calls = c.args.calls.now in
    let i = c.loop-i.i in
    let said = c.loop-i.answers in
    let r = c.perform.result in
    let z = c.perform.new.self in
    let e = c.perform.ensures in record {
      ok = e.ok;
      book = λ k s. runs_more v o k bytes calls said i _ r c.loop-i.self z (omega arith) (omega arith) (c.loop-i.invariant.book k s) e.law e.bottom;
      page = λ p s. laws_next v o p bytes calls said i _ r z (omega arith) (omega arith) (e.page_laws p _ _ (c.loop-i.invariant.page p s));
    }

pub returns : goal.returns
returns g c =
    let v = g.V.CoinsView in
    let o = g.C.SpendCondition in
    let bytes = c.args.bytes.now in
    let calls = c.args.calls.now in
    let said = c.loop-i.answers in
    let z = c.loop-i.self in
    let all : c.loop-i.i ≡ c.min-count.result = omega arith in
    record {
      ok = c.loop-i.invariant.ok;
      count = c.min-count.ensures;
      laws = λ k s. subst (λ n. Laws v o k bytes (take n calls) (take n said) z) all (runs_laws v o k bytes _ _ z (c.loop-i.invariant.book k s));
      page_laws = λ p s. subst (λ n. PageLaws v o p bytes (take n calls) (take n said) z) all (c.loop-i.invariant.page p s);
    }
