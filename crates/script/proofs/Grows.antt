-- A number only grows with more digits.
use Rattle.std.proofs.Common.{◌≡◌, ℕ, ◌+◌, ◌-◌, ◌*◌, ◌<◌, ◌≤◌, true, false, cond, List, [], ◌∷◌, length, get_or, drop, le_refl, arith, le-leb}
use Rattle.std.proofs.lemmas.List.{at_drop_more}
use Rattle.script.specs.Commands.{digit, value_after}

pub grows : (n : ℕ) (s : List ℕ) → n ≤ value_after n s
grows n [] = le_refl n
grows n (c ∷ cs) =
    let u = grows (n * 10 + (c - 48)) cs in
    elim (digit c) as (λ t. n ≤ cond t (value_after (n * 10 + (c - 48)) cs) n) [ true ↦ omega arith | false ↦ le_refl n ]

pub one_digit : (n b : ℕ) (t : List ℕ) → 48 ≤ b → b ≤ 57 → value_after n (b ∷ t) ≡ value_after (n * 10 + (b - 48)) t
one_digit n b t h k = rw (le-leb 48 b h, le-leb b 57 k)

-- where a digit stands, the number of all from there on is at least that of the digit added
pub reads_on : (n i : ℕ) (s : List ℕ) → i < length s → 48 ≤ get_or s i 0 → get_or s i 0 ≤ 57 → n * 10 + (get_or s i 0 - 48) ≤ value_after n (drop i s)
reads_on n i s l h k = rw (at_drop_more (value_after n) s i 0 l, one_digit n (get_or s i 0) (drop (i + 1) s) h k) (grows _ (drop (i + 1) s))
