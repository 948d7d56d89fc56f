-- Reading and writing compact sizes are each other's inverse.
use Rattle.std.proofs.Common.{◌≡◌, ℕ, suc, ◌^◌, ◌<◌, ◌≤◌, ◌⊎◌, List, ◌∷◌, ◌++◌, length, get_or, drop, Ok, Err, Result, sym, refl, ap, ◌∙◌, ⊎_elim, arith, Bor, le-ltb, lt-ltb, MatchResult}
use Rattle.std.proofs.lemmas.Bool.Decides.{nat_tests}
use Rattle.compact.specs.declared.SizeFault.{SizeFault}
use Rattle.compact.specs.declared.SizeFault.TheVariants.{LongForm}
use Rattle.compact.specs.Compact.{le, encode, span, value, least, read_size, Bytes, WrittenIsRead, ReadIsWritten, OneEncoding, SmallIsAByte, NothingIsCut, Examples}
use Rattle.compact.proofs.Parts.{unle, from, whole, le_at, unle_le, unle_lt, two_is, four_is, eight_is, encode_1, encode_2, encode_4, encode_8}

-- a form that is whole and not too long is read
granted : (s : List ℕ) (k n : ℕ) → span s ≡ k → value s ≡ n → k ≤ length s → least s ≤ n → read_size s ≡ Ok (n, drop k s)
unfolding read_size
granted s k n e v l h = rw (le-ltb (length s) (span s) (omega arith), le-ltb (value s) (least s) (omega arith), e, v)

-- what is read is whole and not too long
read_parts : (s : List ℕ) (n : ℕ) (t : List ℕ) → read_size s ≡ Ok (n, t) → (span s ≤ length s) × (least s ≤ value s) × (n ≡ value s) × (t ≡ drop (span s) s)
unfolding read_size
read_parts s n t h = (grind (arith, nat_tests), grind (arith, nat_tests), grind (arith, nat_tests), grind (arith, nat_tests))

sizes : (n : ℕ) → (n < 253) ⊎ (((253 ≤ n) × (n < 65536)) ⊎ (((65536 ≤ n) × (n < 4294967296)) ⊎ (4294967296 ≤ n)))
sizes n = grind arith

pub written_is_read : WrittenIsRead
written_is_read n t h =
    ⊎_elim
    (λ a. rw (encode_1 n a) (granted (n ∷ t) 1 n (grind (arith, nat_tests)) (grind (arith, nat_tests)) (omega arith) (grind (arith, nat_tests))))
    (⊎_elim
    (λ a. rw (encode_2 n a.0 a.1) (granted (253 ∷ le 2 n ++ t) 3 n refl (two_is (253 ∷ le 2 n ++ t) 1 ∙ unle_le 2 n a.1) (omega arith) a.0))
    (⊎_elim
    (λ a. rw (encode_4 n a.0 a.1) (granted (254 ∷ le 4 n ++ t) 5 n refl (four_is (254 ∷ le 4 n ++ t) 1 ∙ unle_le 4 n a.1) (omega arith) a.0))
    (λ a. rw (encode_8 n a) (granted (255 ∷ le 8 n ++ t) 9 n refl (eight_is (255 ∷ le 8 n ++ t) 1 ∙ unle_le 8 n h) (omega arith) a))))
    (sizes n)

-- by the first byte: the span, the least number and the number
pub record Marked (s : List ℕ) (k low n : ℕ) : Type 0 where
  pub long : span s ≡ k
  pub least_is : least s ≡ low
  pub is : value s ≡ n

marked_1 : (s : List ℕ) → get_or s 0 0 < 253 → Marked s 1 0 (get_or s 0 0)
marked_1 s a = record { long = grind (arith, nat_tests); least_is = grind (arith, nat_tests); is = grind (arith, nat_tests) }

markers : (s : List ℕ) → Bytes s → (get_or s 0 0 < 253) ⊎ ((get_or s 0 0 ≡ 253) ⊎ ((get_or s 0 0 ≡ 254) ⊎ (get_or s 0 0 ≡ 255)))
markers s b = let h = b 0 in grind arith

pub small_is_a_byte : SmallIsAByte
small_is_a_byte s n t l h =
    let p = read_parts s n t h in
    let low : least s ≤ n = omega (arith, p.1, p.2) in
    let a : get_or s 0 0 < 253 = grind (arith, nat_tests) in
    let m = marked_1 s a in
    let e : s ≡ get_or s 0 0 ∷ drop 1 s = whole 1 s (omega (arith, p.0, m.long)) in
    e ∙ ap (λ x. x ∷ drop 1 s) (sym (p.2 ∙ m.is)) ∙ ap (λ u. n ∷ u) (sym (p.3 ∙ ap (λ j. drop j s) m.long))

-- a form of a first byte and k others, where its number has that form
wide : (s : List ℕ) (k marker low n : ℕ) (t : List ℕ) → Bytes s → get_or s 0 0 ≡ marker → Marked s (suc k) low (unle (from k 1 s)) → read_size s ≡ Ok (n, t) → (low ≤ n → n < 256 ^ k → encode n ≡ marker ∷ le k n) → encode n ++ t ≡ s
wide s k marker low n t b a m h f =
    let p = read_parts s n t h in
    let v : n ≡ unle (from k 1 s) = p.2 ∙ m.is in
    let w : encode n ≡ from (suc k) 0 s = f (omega (arith, p.1, p.2, m.least_is)) (omega (arith, unle_lt k 1 s b)) ∙ ap (λ x. x ∷ le k n) (sym a) ∙ ap (λ x. get_or s 0 0 ∷ x) (le_at k 1 n s b v) in
    ap (λ u. encode n ++ u) (p.3 ∙ ap (λ j. drop j s) m.long)
    ∙ ap (λ u. u ++ drop (suc k) s) w
    ∙ sym (whole (suc k) s (omega (arith, p.0, m.long)))

pub read_is_written : ReadIsWritten
read_is_written s n t b h =
    ⊎_elim
    (λ a. let l : n < 253 = omega (arith, (marked_1 s a).is, (read_parts s n t h).2) in ap (λ u. u ++ t) (encode_1 n l) ∙ sym (small_is_a_byte s n t l h))
    (⊎_elim
    (λ a. wide s 2 253 253 n t b a (record { long = rw a; least_is = rw a; is = rw a (two_is s 1) }) h (encode_2 n))
    (⊎_elim
    (λ a. wide s 4 254 65536 n t b a (record { long = rw a; least_is = rw a; is = rw a (four_is s 1) }) h (encode_4 n))
    (λ a. wide s 8 255 4294967296 n t b a (record { long = rw a; least_is = rw a; is = rw a (eight_is s 1) }) h (λ l _. encode_8 n l))))
    (markers s b)

same_parts : (n m : ℕ) (t u : List ℕ) → ◌≡◌ {A = Result (ℕ × List ℕ) SizeFault} (Ok (n, t)) (Ok (m, u)) → (n ≡ m) × (t ≡ u)
same_parts n m t u h =
    let p : ◌≡◌ {A = ℕ × List ℕ} (n, t) (m, u) = cc in
    (ap (λ q. q.0) p, ap (λ q. q.1) p)

pub one_encoding : OneEncoding
one_encoding n m t u hn hm e =
    let a = written_is_read n t hn in
    let b = written_is_read m u hm in
    same_parts n m t u (sym a ∙ ap read_size e ∙ b)

pub nothing_is_cut : NothingIsCut
unfolding read_size
nothing_is_cut = refl

pub examples : Examples
unfolding read_size
examples = (refl, refl, refl)

pub refused : (s : List ℕ) (e : SizeFault) → read_size s ≡ Err e → (n : ℕ) (t : List ℕ) → n < 2 ^ 64 → s ≡ encode n ++ t → ⊥
refused s e h n t l w =
    let a = written_is_read n t l in
    let p : ◌≡◌ {A = Result (ℕ × List ℕ) SizeFault} (Err e) (Ok (n, t)) = sym h ∙ ap read_size w ∙ a in
    let z : ◌≡◌ {A = ℕ} 0 1 = cc in
    omega arith

-- what a read answers: the number and the rest, or the fault; and the same by the encoding
abbrev pub Answer : List ℕ → Result (ℕ × Bor (List ℕ)) SizeFault → Type 0
Answer s r = MatchResult r (λ p. read_size s ≡ Ok (p.0, p.1.now)) (λ e. read_size s ≡ Err e)

abbrev pub Reads : List ℕ → Result (ℕ × Bor (List ℕ)) SizeFault → Type 0
Reads s r = MatchResult r (λ p. s ≡ encode p.0 ++ p.1.now) (λ _. (n : ℕ) (rest : List ℕ) → n < 2 ^ 64 → s ≡ encode n ++ rest → ⊥)

pub reads : (s : List ℕ) (r : Result (ℕ × Bor (List ℕ)) SizeFault) → Bytes s → Answer s r → Reads s r
reads s (Ok p) b h = sym (read_is_written s p.0 p.1.now b h)
reads s (Err e) b h = refused s e h

-- a form of a first byte and k others
pub answers : (s : List ℕ) (k low n : ℕ) (rest : List ℕ) (r : Result (ℕ × Bor (List ℕ)) SizeFault) → Marked s k low n → k ≤ length s → rest ≡ drop k s → MatchResult r (λ p. (low ≤ n) × (p.0 ≡ n) × (p.1.now ≡ rest)) (λ e. (n < low) × (e ≡ LongForm)) → Answer s r
unfolding read_size
answers s k low n rest (Ok p) m l d h =
    granted s k n m.long m.is l (omega (arith, m.least_is, h.0))
    ∙ ap (λ x. Ok (x, drop k s)) (sym h.1) ∙ ap (λ x. Ok (p.0, x)) (sym (h.2 ∙ d))
answers s k low n rest (Err e) m l d h =
    let a = m.long in
    let v = m.is in
    let w = m.least_is in
    rw (le-ltb (length s) (span s) (omega arith), lt-ltb (value s) (least s) (omega (arith, h.0))) (ap Err (sym h.1))
