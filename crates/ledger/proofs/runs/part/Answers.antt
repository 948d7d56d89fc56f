use Rattle.std.proofs.Common.{◌≡◌, ◌+◌, ◌-◌, min, length, take, drop, sym, ap, ◌∙◌, arith}
use Rattle.std.proofs.lemmas.List.{drop-take}
use Rattle.ledger.proofs.Parts.{take_most, drop_most, length_most}
use Rattle.ledger.proofs.runs.part.Goals as goal

pub returns : goal.returns
returns c =
    let b = c.args.bytes.now in
    let to = c.args.to in
    let from = c.args.from in
    let start = c.min.result in
    let end = c.min-end.result in
    let ys = take (min to (length b)) b in
    let whole : start + (end - start) ≡ end = omega (arith, c.min.ensures) in
    let at : drop (min from (min to (length b))) ys ≡ drop from (take to b) = ap (λ n. drop (min from n) ys) (sym (length_most to b)) ∙ drop_most from ys ∙ ap (drop from) (take_most to b) in
    sym (drop-take start (end - start) b) ∙ ap (λ n. drop start (take n b)) whole ∙ ap (λ n. drop n (take end b)) c.min.ensures ∙ ap (λ e. drop (min from e) (take e b)) c.min-end.ensures ∙ at
