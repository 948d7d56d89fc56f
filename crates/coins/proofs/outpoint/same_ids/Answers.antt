use Rattle.std.proofs.Common.{ap, ◌∙◌, arith}
use Rattle.std.specs.Cmp.Lexicographic.{slice_cmp, texts_ties}
use Rattle.std.specs.Ordering.{is_eq, nat_cmp}
use Rattle.coins.proofs.Words.{words_order}
use Rattle.coins.proofs.outpoint.same_ids.Goals as goal

pub returns : goal.returns
returns c =
    c.eq.ensures ∙ texts_ties c.words.result c.words-2.result
    ∙ (λ i. is_eq (slice_cmp nat_cmp (c.words.ensures i) (c.words-2.ensures i)))
    ∙ ap is_eq (words_order c.args.a.now c.args.b.now (omega arith) (omega arith) c.fits-a c.fits-b)
