use Rattle.std.proofs.Common.{◌≡◌, ◌≤◌, length, string_bytes}
use Rattle.script.specs.Cuts.{lines_of}
use Rattle.replay.proofs.Collected.{Collected}
use Rattle.replay.proofs.Turning.{Done}
use Rattle.replay.proofs.text.printout_of.Given as goal

-- a printed line for each line of the script that is done, and what the pages say of them
abbrev pub invariant-loop-line : goal.invariant-loop-line
invariant-loop-line g l =
    let v = g.V.CoinsView in
    let c = g.C.SpendCondition in
    v.ok l.ledger.state.view ×
    (length l.blocks ≤ 65536) ×
    (l.session.file.file.now ≡ l.blocks) ×
    Collected (string_bytes l.text) (lines_of l.session.rest.now) (length (lines_of l.script)) ×
    Done v c l.blocks l.session.number l.session.file.place (lines_of l.session.rest.now) (string_bytes l.text) (lines_of l.script) l.initial.ledger l.ledger

abbrev pub decreases-loop-line : goal.decreases-loop-line
decreases-loop-line g l = length l.session.rest.now
