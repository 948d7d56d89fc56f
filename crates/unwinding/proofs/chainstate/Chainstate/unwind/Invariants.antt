use Rattle.std.proofs.Common.{◌≡◌, true, length}
use Rattle.undo.specs.Entries.{entries}
use Rattle.unwinding.specs.Undoing.{back}
use Rattle.unwinding.proofs.chainstate.Chainstate.unwind.Given as goal

-- what is left is taken back to what the whole is
abbrev pub invariant-loop-entry : goal.invariant-loop-entry
invariant-loop-entry g l =
    let v = g.V.CoinsView in
    let s = l.initial.self in
    v.ok l.self.view ×
    (v.most l.self.view ≡ v.most s.view) ×
    (back (v.most s.view) (entries s.undo) (v.coins s.view) true ≡ back (v.most s.view) (entries l.self.undo) (v.coins l.self.view) l.clean)

abbrev pub decreases-loop-entry : goal.decreases-loop-entry
decreases-loop-entry g l = length (entries l.self.undo)
