-- The entries of the undo memory, chained newest first.
use Rattle.std.specs.Prelude.{ℕ, zero, suc, Bool, true, false, cond, List, [], ◌∷◌, reverse, length, nat_lt}
use Rattle.undo.specs.declared.Record.{Record}
use Rattle.undo.specs.declared.Record.TheVariants.{Mark, Made, Spent}
use Rattle.undo.specs.declared.Undo.{Undo}

unfoldable pub entries : Undo → List Record
entries u = reverse u.records.items

-- one entry more, unless there are 512
abbrev pub pushed : Record → List Record → List Record
pushed r es = cond (nat_lt (length es) 512) (r ∷ es) es

abbrev pub mark : Record → Bool
mark (Mark previous) = true
mark (Made at coin) = false
mark (Spent at coin) = false

-- the entries of the newest n blocks: up to the n-th mark
abbrev pub newest : ℕ → List Record → List Record
newest zero es = []
newest (suc n) [] = []
newest (suc n) (r ∷ es) = r ∷ cond (mark r) (newest n es) (newest (suc n) es)
