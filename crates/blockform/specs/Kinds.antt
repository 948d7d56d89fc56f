-- An item of either kind: how it is read at a place, what stands there, and where it ends.
use Rattle.std.specs.Prelude.{ℕ, List, Result}
use Rattle.blockbytes.specs.declared.fault.FormFault.{FormFault}
use Rattle.blockbytes.specs.Form.{input, output}
use Rattle.blockbytes.specs.Value.{Piece, spends, makes}
use Rattle.blockbytes.specs.Places.{input_at, input_end, output_at, output_end}
use Rattle.blockform.specs.declared.reader.Kind.{Kind}
use Rattle.blockform.specs.declared.reader.Kind.TheVariants.{Input, Output}

abbrev pub item : Kind → List ℕ → ℕ → Result ℕ FormFault
item Input b = input b
item Output b = output b

abbrev pub item_at : Kind → List ℕ → ℕ → Piece
item_at Input b = λ at. spends (input_at b at)
item_at Output b = λ at. makes (output_at b at)

abbrev pub item_end : Kind → List ℕ → ℕ → ℕ
item_end Input b = input_end b
item_end Output b = output_end
