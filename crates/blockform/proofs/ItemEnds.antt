-- Where an item of either kind ends.
use Rattle.std.proofs.Common.{ℕ, List}
use Rattle.blockbytes.proofs.Steps.{Ends, input_ends, output_ends}
use Rattle.blockform.specs.declared.reader.Kind.{Kind}
use Rattle.blockform.specs.declared.reader.Kind.TheVariants.{Input, Output}
use Rattle.blockform.specs.Kinds.{item, item_end}

pub item_ends : (k : Kind) (b : List ℕ) → Ends (item k b) (item_end k b)
item_ends Input b = input_ends b
item_ends Output b = output_ends b
