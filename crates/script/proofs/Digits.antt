-- The digits at the front of a line.
use Rattle.std.proofs.Common.{◌≡◌, ℕ, ◌+◌, ◌-◌, ◌*◌, true, false, cond, List, [], ◌∷◌, drop, refl, arith}
use Rattle.std.specs.List.{prefix_len, take_while}
use Rattle.std.proofs.lemmas.List.Sums.{take_while-cons}
use Rattle.std.proofs.lemmas.Grind.{common_steps}
use Rattle.script.specs.Commands.{digit, value_after, after_digits}
use Rattle.script.specs.Forms.{AllDigits, decimal_value}

pub lead_digits : (s : List ℕ) → AllDigits (take_while digit s)
lead_digits [] = tt
lead_digits (c ∷ cs) =
    rw take_while-cons
    (elim (digit c) as (λ t. digit c ≡ t → AllDigits (cond t (c ∷ take_while digit cs) [])) [ true ↦ λ e. (e, lead_digits cs) | false ↦ λ e. tt ] refl)

pub lead_value : (n : ℕ) (s : List ℕ) → decimal_value n (take_while digit s) ≡ value_after n s
lead_value n [] = refl
lead_value n (c ∷ cs) =
    rw take_while-cons
    (elim (digit c) as (λ t. decimal_value n (cond t (c ∷ take_while digit cs) []) ≡ cond t (value_after (n * 10 + (c - 48)) cs) n) [ true ↦ lead_value (n * 10 + (c - 48)) cs | false ↦ refl ])

pub lead_rest : (s : List ℕ) → drop (prefix_len digit s) s ≡ after_digits s
lead_rest [] = refl
lead_rest (c ∷ cs) =
    let h = lead_rest cs in
    elim (digit c) as (λ t. drop (cond t (1 + prefix_len digit cs) 0) (c ∷ cs) ≡ cond t (after_digits cs) (c ∷ cs)) [ true ↦ grind (arith, common_steps, h) | false ↦ refl ]
