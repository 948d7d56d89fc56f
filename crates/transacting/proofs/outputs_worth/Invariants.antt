use Rattle.std.proofs.Common.{◌≡◌, ◌+◌}
use Rattle.blockform.specs.Readers.{items_of}
use Rattle.connecting.specs.Parts.{outputs_in}
use Rattle.connecting.specs.Rules.{worth}
use Rattle.transacting.proofs.outputs_worth.Given as goal

abbrev pub invariant-loop-output : goal.invariant-loop-output
invariant-loop-output l = worth (outputs_in (items_of l.fn.outputs)) ≡ l.sum + worth (outputs_in (items_of l.output-iterator))
