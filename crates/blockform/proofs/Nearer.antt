-- A call that hands out the first of what is left leaves one fewer.
use Rattle.std.proofs.Common.{◌≡◌, List, ◌∷◌, length, Option, Some, None, IfSome, ap, arith}
use Rattle.std.specs.Iterator.{MakesProgress, item_count}

pub nearer : {S A X : Type 0} (rest : S → List X) (s t : S) (r : Option A) → IfSome r (λ _. (x : X) × (rest s ≡ x ∷ rest t)) → MakesProgress (λ _. Unit {0}) (item_count rest) s r t
nearer rest s t (Some a) h = record { on = λ _. (tt, tt, omega (arith, ap length h.1)); keeps = tt; rests = λ _. tt }
nearer rest s t None h = record { on = λ _. tt; keeps = tt; rests = λ _. tt }
