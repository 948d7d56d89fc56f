-- Places past the end of a list. Assumes nothing.
use Rattle.std.proofs.Common.{◌≡◌, ℕ, min, List, length, take, drop, sym, ap, ◌∙◌, ⊎_elim, arith}
use Rattle.std.proofs.lemmas.List.{take_all, drop_all, length-take-le}
use Rattle.std.proofs.lemmas.Bool.{cases_lt}

pub take_most : (n : ℕ) (xs : List ℕ) → take (min n (length xs)) xs ≡ take n xs
take_most n xs =
    ⊎_elim
    (λ h. let e : min n (length xs) ≡ n = omega arith in ap (λ k. take k xs) e)
    (λ h. let e : min n (length xs) ≡ length xs = omega arith in ap (λ k. take k xs) e ∙ take_all (length xs) xs (omega arith) ∙ sym (take_all n xs h))
    (cases_lt n (length xs))

pub drop_most : (n : ℕ) (xs : List ℕ) → drop (min n (length xs)) xs ≡ drop n xs
drop_most n xs =
    ⊎_elim
    (λ h. let e : min n (length xs) ≡ n = omega arith in ap (λ k. drop k xs) e)
    (λ h. let e : min n (length xs) ≡ length xs = omega arith in ap (λ k. drop k xs) e ∙ drop_all (length xs) xs (omega arith) ∙ sym (drop_all n xs h))
    (cases_lt n (length xs))

pub length_most : (n : ℕ) (xs : List ℕ) → length (take (min n (length xs)) xs) ≡ min n (length xs)
length_most n xs = length-take-le (min n (length xs)) xs (omega arith)
