use Rattle.std.proofs.Common.{◌≡◌, ◌-◌, ◌≤◌, ◌++◌, reverse, length, take, drop}
use Rattle.undo.specs.Entries.{newest}
use Rattle.undo.proofs.Undo.start_of.Given as goal

abbrev pub invariant-loop-block : goal.invariant-loop-block
invariant-loop-block l =
    record {
      within : l.at ≤ length l.self.records.items;
      passed : newest l.blocks (reverse l.self.records.items) ≡ reverse (drop l.at l.self.records.items) ++ newest (l.blocks - l._block) (reverse (take l.at l.self.records.items));
    }
