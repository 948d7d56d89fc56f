use Rattle.std.proofs.Common.{◌∙◌, arith}
use Rattle.entries.proofs.Places.{added_at, sorted_with}
use Rattle.entries.proofs.table.EntryTable.add.Goals as goal

pub invariant_of-self : goal.invariant_of-self
invariant_of-self c = record { few = omega (arith, c.insert.ensures.len); sorted = sorted_with _ _ _ _ (c.insert.ensures.items ∙ added_at _ _ _ _ c.requires.here) c.args.self.now.sorted }

pub returns : goal.returns
returns c = c.insert.ensures.items ∙ added_at _ _ _ _ c.requires.here
