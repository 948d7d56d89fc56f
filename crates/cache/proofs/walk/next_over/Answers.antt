use Rattle.std.proofs.Common.{sym, ◌∙◌}
use Rattle.cache.proofs.Nexts.{asked, next_past, found_before, found_entry, found_spent, next_first}
use Rattle.cache.proofs.walk.next_over.Goals as goal

pub returns-then-before-clause-value : goal.returns-then-before-clause-value
returns-then-before-clause-value g c =
    let v = g.V.CoinsView in
    let l = c.loop-at in
    let rows = v.sorted c.args.below.now c.requires.ok in
    let found = asked l.last _ _ (v.coins c.args.below.now) _ c.next-found.ensures.value c.as_ref.ensures.value l.invariant.2 in
    found_before _ _ _ c.requires.sorted rows c.args.start l.at-index l.invariant.3 _ c.loop-at-test.true c.loop-at-item.is _ found (sym c.if-before.ensures) ∙ l.invariant.4

pub returns-in-Some-clause-value : goal.returns-in-Some-clause-value
returns-in-Some-clause-value g c =
    let v = g.V.CoinsView in
    let l = c.loop-at in
    let rows = v.sorted c.args.below.now c.requires.ok in
    let found = asked l.last _ _ (v.coins c.args.below.now) _ c.next-found.ensures.value c.as_ref.ensures.value l.invariant.2 in
    found_entry _ _ _ c.requires.sorted rows c.args.start l.at-index l.invariant.3 _ c.loop-at-test.true c.loop-at-item.is _ _ found (sym c.if-before.ensures) c.in-Some.is ∙ l.invariant.4

pub loop-at-preserved : goal.loop-at-preserved
loop-at-preserved g c =
    let v = g.V.CoinsView in
    let l = c.loop-at in
    let e = c.next-found.ensures in
    let rows = v.sorted c.args.below.now c.requires.ok in
    let found = asked l.last _ _ (v.coins c.args.below.now) _ e.value c.as_ref.ensures.value l.invariant.2 in (
      e.well,
      e.fixed ∙ l.invariant.1,
      e.map ∙ l.invariant.2,
      next_first _ _ _ c.requires.sorted rows c.args.start l.at-index l.invariant.3 _ c.loop-at-test.true c.loop-at-item.is,
      found_spent _ _ _ c.requires.sorted rows c.args.start l.at-index l.invariant.3 _ c.loop-at-test.true c.loop-at-item.is _ found (sym c.if-before.ensures) c.in_default.is ∙ l.invariant.4,
    )

pub returns-clause-value : goal.returns-clause-value
returns-clause-value g c =
    let v = g.V.CoinsView in
    let l = c.loop-at in
    let rows = v.sorted c.args.below.now c.requires.ok in
    let found = asked l.last _ _ (v.coins c.args.below.now) _ c.next.ensures.value c.as_ref-2.ensures.value l.invariant.2 in
    next_past _ _ _ c.requires.sorted rows c.args.start l.at-index l.invariant.3 _ found c.requires.within c.loop-at-test.false ∙ l.invariant.4
