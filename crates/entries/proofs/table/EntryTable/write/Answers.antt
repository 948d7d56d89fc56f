use Rattle.std.proofs.Common.{length-set}
use Rattle.entries.proofs.Places.{set_at, sorted_with}
use Rattle.entries.proofs.table.EntryTable.write.Goals as goal

pub invariant_of-self : goal.invariant_of-self
invariant_of-self c = record { few = simp length-set c.args.self.now.few; sorted = sorted_with _ _ _ _ (set_at _ _ _ _ c.in-Some.slot.now c.requires c.in-Some.ensures.value) c.args.self.now.sorted }

pub returns-in-Some : goal.returns-in-Some
returns-in-Some c = set_at _ _ _ _ c.in-Some.slot.now c.requires c.in-Some.ensures.value
