use Rattle.std.proofs.Common.{◌∙◌, arith}
use Rattle.entries.proofs.Places.{removed_at, sorted_without}
use Rattle.entries.proofs.table.EntryTable.drop_at.Goals as goal

pub invariant_of-self : goal.invariant_of-self
invariant_of-self c = record { few = omega (arith, c.remove.ensures.len); sorted = sorted_without _ _ _ (c.remove.ensures.items ∙ removed_at _ _ _ c.requires) c.args.self.now.sorted }

pub returns : goal.returns
returns c = c.remove.ensures.items ∙ removed_at _ _ _ c.requires
