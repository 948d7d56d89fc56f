-- The inputs and the outputs that a reader of a transaction still has to hand out.
use Rattle.std.specs.Prelude.{Bool, false, List, [], ◌∷◌}
use Rattle.blockform.specs.Value.{InputValue, OutputValue, Piece, spends, makes}
use Rattle.connecting.specs.Rules.{is_null}

abbrev pub inputs_in : List Piece → List InputValue
inputs_in [] = []
inputs_in (spends x ∷ ps) = x ∷ inputs_in ps
inputs_in (makes y ∷ ps) = []

abbrev pub outputs_in : List Piece → List OutputValue
outputs_in [] = []
outputs_in (makes y ∷ ps) = y ∷ outputs_in ps
outputs_in (spends x ∷ ps) = []

-- an input that names the null outpoint
abbrev pub null_piece : Piece → Bool
null_piece (spends x) = is_null x.outpoint
null_piece (makes y) = false
