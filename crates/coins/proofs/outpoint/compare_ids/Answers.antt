use Rattle.std.proofs.Common.{◌*◌, sym, ◌∙◌, arith}
use Rattle.coins.proofs.Words.{words_equal, words_differ, none_left}
use Rattle.coins.proofs.outpoint.compare_ids.Goals as goal

pub loop-k-preserved : goal.loop-k-preserved
loop-k-preserved c =
    c.loop-k.invariant ∙ words_equal c.args.a.now c.args.b.now (8 * c.loop-k.k) (omega arith) (omega arith) c.fits-a c.fits-b _ _ c.word-x.ensures c.word-y.ensures _ (omega arith) c.if-x-y.false

pub returns-then-x-y : goal.returns-then-x-y
returns-then-x-y c =
    let differ = words_differ c.args.a.now c.args.b.now (8 * c.loop-k.k) (omega arith) (omega arith) c.fits-a c.fits-b _ _ c.word-x.ensures c.word-y.ensures c.if-x-y.true in
    c.cmp.ensures ∙ sym (c.loop-k.invariant ∙ differ)

pub returns : goal.returns
returns c = sym (c.loop-k.invariant ∙ none_left (8 * c.loop-k.k) c.args.a.now c.args.b.now (omega arith) (omega arith))
