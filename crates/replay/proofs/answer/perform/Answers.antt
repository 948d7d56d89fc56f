use Rattle.std.proofs.Common.{◌-◌, length, Ok, refl, rules, ◌∙◌}
use Rattle.ledger.specs.declared.runs.Answer.TheVariants as answer
use Rattle.ledger.specs.Book.{connect_answer, disconnect_answer, coins_of, held_by}
use Rattle.ledger.specs.Pages.{from_book, start_on}
use Rattle.ledger.specs.Runs.{part}
use Rattle.replay.specs.Answers.{start_line, connect_line, disconnect_line, balance_line}
use Rattle.replay.specs.PageTurns.{parameters, lock_of}
use Rattle.replay.proofs.Turning.{call_turn, connect_turn, command_turn}
use Rattle.replay.proofs.answer.perform.Goals as goal

pub returns-in-Start-perform-clause-page : goal.returns-in-Start-perform-clause-page
returns-in-Start-perform-clause-page g c =
    let v = g.V.CoinsView in
    let o = g.C.SpendCondition in
    let a = c.args.ledger.now in
    let z = c.perform.new.self in
    let e = c.in-Start-perform.ensures in
    let r = c.in-Start-perform.started in
    let x = parameters c.in-Start.halving c.in-Start.maturity c.in-Start.last in
    command_turn v o _ c.bytes-blocks.result.now c.args.file.now.place _ _ _ a z c.bytes-blocks.ensures c.in-Start.is
    (call_turn v o c.bytes-blocks.result.now _ r (answer.Start r) start_line (λ q. start_on q x) _ a z (λ q s. let h = (e.performed.law q s).1 in cc) (search rules) e.page_laws)

pub returns-in-Connect-perform-clause-page : goal.returns-in-Connect-perform-clause-page
returns-in-Connect-perform-clause-page g c =
    let v = g.V.CoinsView in
    let o = g.C.SpendCondition in
    let a = c.args.ledger.now in
    let z = c.perform-in-Ok.new.self in
    let e = c.in-Connect-perform.ensures in
    let r = c.in-Connect-perform.connected in
    let b = c.in-Ok.block.now in
    let f = c.args.file.now in
    let to = c.place-to.result in
    let bytes = c.bytes-blocks.result.now in
    command_turn v o f.file.now f.file.now f.place _ _ _ a z refl c.in-Connect.is
    (connect_turn v o f.file.now bytes b f.place _ to _ a z c.bytes-blocks.ensures c.in-Ok.ensures.cases.0 (c.place-to.ensures ∙ c.in-Ok.ensures.cases.1) refl
    (call_turn v o bytes _ r (answer.Connect r) connect_line (λ q. from_book (λ k. connect_answer k (part (to - length b) to bytes)) q) _ a z (λ q s. let h = (e.performed.law q s).1 in cc) (search rules) e.page_laws))

pub returns-in-Disconnect-perform-clause-page : goal.returns-in-Disconnect-perform-clause-page
returns-in-Disconnect-perform-clause-page g c =
    let v = g.V.CoinsView in
    let o = g.C.SpendCondition in
    let a = c.args.ledger.now in
    let z = c.perform-in-Disconnect.new.self in
    let e = c.in-Disconnect-perform.ensures in
    let r = c.in-Disconnect-perform.disconnected in
    command_turn v o _ c.bytes-blocks.result.now c.args.file.now.place _ _ _ a z c.bytes-blocks.ensures c.in-Disconnect.is
    (call_turn v o c.bytes-blocks.result.now _ r (answer.Disconnect r) disconnect_line (λ q. from_book disconnect_answer q) _ a z (λ q s. let h = (e.performed.law q s).1 in cc) (search rules) e.page_laws)

pub returns-in-Balance-perform-clause-page : goal.returns-in-Balance-perform-clause-page
returns-in-Balance-perform-clause-page g c =
    let v = g.V.CoinsView in
    let o = g.C.SpendCondition in
    let a = c.args.ledger.now in
    let z = c.perform-in-Balance.new.self in
    let e = c.in-Balance-perform.ensures in
    let r = c.in-Balance-perform.balance in
    let lock = lock_of c.in-Balance.kind c.in-Balance.argument in
    command_turn v o _ c.bytes-blocks.result.now c.args.file.now.place _ _ _ a z c.bytes-blocks.ensures c.in-Balance.is
    (call_turn v o c.bytes-blocks.result.now _ r (answer.Balance r) (balance_line lock) (λ q. from_book (λ b. Ok (held_by lock (coins_of b))) q) _ a z (λ q s. let h = (e.performed.law q s).1 in cc) (search rules) e.page_laws)
