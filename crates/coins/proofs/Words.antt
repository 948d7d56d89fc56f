-- The order of two lists of bytes is that of the numbers which their fronts write, and then that of the rests. Assumes nothing.
use Rattle.std.proofs.Common.{◌≡◌, ℕ, zero, suc, ◌+◌, ◌*◌, ◌<◌, ◌≤◌, List, [], ◌∷◌, length, get_or, take, drop, Ordering, Less, Equal, Greater, sym, refl, ap, ◌∙◌, arith, length-drop, get_or-drop, drop-drop}
use Rattle.std.proofs.lemmas.List.{drop_all}
use Rattle.std.proofs.lemmas.Bool.Decides.{nat_tests}
use Rattle.std.specs.Ordering.{ordering_then, nat_cmp}
use Rattle.std.specs.Cmp.Lexicographic.{slice_cmp}
use Rattle.std.specs.Int.Digits.{number_from_digits_after}
use Rattle.std.proofs.lemmas.Map.Lookups.{exact_unsigned}
use Rattle.coins.specs.Words.{word_at, words_of}

abbrev Bytes : List ℕ → Type 0
Bytes xs = (i : ℕ) → get_or xs i 0 < 256

-- one byte more weighs less than what stands before it
byte_more : (p q x y : ℕ) (o : Ordering) → x < 256 → y < 256 → ordering_then (nat_cmp (p * 256 + x) (q * 256 + y)) o ≡ ordering_then (nat_cmp p q) (ordering_then (nat_cmp x y) o)
byte_more p q x y o a b = grind (arith, nat_tests)

by_fronts : (n p q : ℕ) (xs ys : List ℕ) → n ≤ length xs → n ≤ length ys → Bytes xs → Bytes ys → ordering_then (nat_cmp p q) (slice_cmp nat_cmp xs ys) ≡ ordering_then (nat_cmp (number_from_digits_after 256 p (take n xs)) (number_from_digits_after 256 q (take n ys))) (slice_cmp nat_cmp (drop n xs) (drop n ys))
by_fronts zero p q xs ys h k u v = refl
by_fronts (suc n) p q [] ys h k u v = absurd (omega arith)
by_fronts (suc n) p q (x ∷ xs) [] h k u v = absurd (omega arith)
by_fronts (suc n) p q (x ∷ xs) (y ∷ ys) h k u v =
    sym (byte_more p q x y (slice_cmp nat_cmp xs ys) (u 0) (v 0)) ∙ by_fronts n (p * 256 + x) (q * 256 + y) xs ys (omega arith) (omega arith) (λ i. u (suc i)) (λ i. v (suc i))

bytes_drop : (place : ℕ) (xs : List ℕ) → Bytes xs → Bytes (drop place xs)
bytes_drop place xs u i = rw get_or-drop (u (place + i))

-- the words at a place decide, and else what follows them
by_words : (xs ys : List ℕ) (place : ℕ) → place + 8 ≤ length xs → place + 8 ≤ length ys → Bytes xs → Bytes ys → slice_cmp nat_cmp (drop place xs) (drop place ys) ≡ ordering_then (nat_cmp (word_at xs place) (word_at ys place)) (slice_cmp nat_cmp (drop (place + 8) xs) (drop (place + 8) ys))
by_words xs ys place h k u v =
    let a : 8 ≤ length (drop place xs) = simp length-drop (omega arith) in
    let b : 8 ≤ length (drop place ys) = simp length-drop (omega arith) in
    by_fronts 8 0 0 (drop place xs) (drop place ys) a b (bytes_drop place xs u) (bytes_drop place ys v) ∙ (λ i. ordering_then (nat_cmp (word_at xs place) (word_at ys place)) (slice_cmp nat_cmp (drop-drop 8 place xs i) (drop-drop 8 place ys i)))

-- the words of two identifiers are in the order of their bytes
pub words_order : (xs ys : List ℕ) → length xs ≡ 32 → length ys ≡ 32 → Bytes xs → Bytes ys → slice_cmp nat_cmp (words_of xs) (words_of ys) ≡ slice_cmp nat_cmp xs ys
words_order xs ys h k u v = sym (then_at 0 (omega arith) (omega arith) (then_at 8 (omega arith) (omega arith) (then_at 16 (omega arith) (omega arith) (then_at 24 (omega arith) (omega arith) none_left))))
  where
    then_at : (place : ℕ) {o : Ordering} → place + 8 ≤ length xs → place + 8 ≤ length ys → slice_cmp nat_cmp (drop (place + 8) xs) (drop (place + 8) ys) ≡ o → slice_cmp nat_cmp (drop place xs) (drop place ys) ≡ ordering_then (nat_cmp (word_at xs place) (word_at ys place)) o
    then_at place {o} a b e = by_words xs ys place a b u v ∙ ap (ordering_then (nat_cmp (word_at xs place) (word_at ys place))) e

    none_left : slice_cmp nat_cmp (drop 32 xs) (drop 32 ys) ≡ Equal
    none_left = λ i. slice_cmp nat_cmp (drop_all 32 xs (omega arith) i) (drop_all 32 ys (omega arith) i)

same_rank : (x y : ℕ) → x ≡ y → nat_cmp x y ≡ Equal
same_rank x y e = grind (arith, nat_tests)

then_first : (a b : Ordering) → (a ≡ Equal → ⊥) → ordering_then a b ≡ a
then_first Less b n = refl
then_first Equal b n = absurd (n refl)
then_first Greater b n = refl

-- where the words x and y at a place are equal, what follows them decides, and else they do
module _ (xs ys : List ℕ) (place : ℕ) (h : place + 8 ≤ length xs) (k : place + 8 ≤ length ys) (u : Bytes xs) (v : Bytes ys) (x y : ℕ) (ex : x ≡ word_at xs place) (ey : y ≡ word_at ys place) where
  by_them : slice_cmp nat_cmp (drop place xs) (drop place ys) ≡ ordering_then (nat_cmp x y) (slice_cmp nat_cmp (drop (place + 8) xs) (drop (place + 8) ys))
  by_them = rw (ex, ey) (by_words xs ys place h k u v)

  pub words_equal : (next : ℕ) → place + 8 ≡ next → x ≡ y → slice_cmp nat_cmp (drop place xs) (drop place ys) ≡ slice_cmp nat_cmp (drop next xs) (drop next ys)
  words_equal next n e =
      by_them ∙ ap (λ o. ordering_then o (slice_cmp nat_cmp (drop (place + 8) xs) (drop (place + 8) ys))) (same_rank x y e) ∙ ap (λ m. slice_cmp nat_cmp (drop m xs) (drop m ys)) n

  pub words_differ : (x ≡ y → ⊥) → slice_cmp nat_cmp (drop place xs) (drop place ys) ≡ nat_cmp x y
  words_differ n =
      by_them ∙ then_first (nat_cmp x y) (slice_cmp nat_cmp (drop (place + 8) xs) (drop (place + 8) ys)) (λ e. n (exact_unsigned x y e))

pub none_left : (n : ℕ) (xs ys : List ℕ) → length xs ≤ n → length ys ≤ n → slice_cmp nat_cmp (drop n xs) (drop n ys) ≡ Equal
none_left n xs ys h k = λ i. slice_cmp nat_cmp (drop_all n xs h i) (drop_all n ys k i)
