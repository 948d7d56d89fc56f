-- The first cells of a row are no more than the row.
use Rattle.std.specs.Prelude.{ℕ, ◌≤◌, List, length, take}
use Rattle.std.proofs.Common.{arith}
use Rattle.std.proofs.lemmas.List.{length-take-le}

pub take_few : {X : Type 0} (n : ℕ) (xs : List X) → n ≤ length xs → length (take n xs) ≤ length xs
take_few n xs h = omega (arith, length-take-le n xs h)
