use Rattle.std.proofs.Common.{◌≡◌, Some, ap, ◌∙◌, subst, rules}
use Rattle.script.specs.Cuts.{held}
use Rattle.replay.specs.Turns.{parsed, Turn}
use Rattle.replay.specs.PageTurns.{turn_place, turn_calls, turn_line, PageTurn}
use Rattle.replay.proofs.answer.answer_line.Goals as goal

pub returns-in-Some : goal.returns-in-Some
returns-in-Some g c =
    let a = c.args.file.now in
    let b = c.perform.new.file in
    let e = c.perform.ensures in
    let is : Some c.in-Some.command ≡ parsed (held c.args.line) = search rules in
    let x = c.perform.result in
    let l = c.args.ledger.now in
    let z = c.perform.new.ledger in
    record {
      ok = e.ok;
      file = e.file;
      turn = subst (λ y. Turn a.file.now c.args.number a.place b.place l z x y) is e.turn;
      place = e.turn.place ∙ ap (turn_place a.file.now a.place) is;
      page = subst (λ y. PageTurn g.V.CoinsView g.C.SpendCondition a.file.now (turn_calls a.file.now a.place y) (turn_line a.file.now c.args.number a.place y) x l z) is e.page;
    }
