-- Numbers as bytes, least first, over any width; a list as its first bytes and the rest.
use Rattle.std.proofs.Common.{◌≡◌, ℕ, zero, suc, ◌+◌, ◌-◌, ◌*◌, ◌/◌, ◌%◌, ◌^◌, ◌<◌, ◌≤◌, List, [], ◌∷◌, ◌++◌, length, get_or, take, drop, refl, ap, ◌∙◌, add-zero, pow-suc, zero-add, arith, lit<, length-drop, take_all, drop-cons, le-ltb, lt-ltb}
use Rattle.compact.specs.Compact.{le, encode, two_at, four_at, eight_at, Bytes}

-- the number that bytes write, least first
abbrev pub unle : List ℕ → ℕ
unle [] = 0
unle (b ∷ bs) = b + unle bs * 256

-- the k bytes of s from i on
abbrev pub from : ℕ → ℕ → List ℕ → List ℕ
from zero i s = []
from (suc k) i s = get_or s i 0 ∷ from k (i + 1) s

pub split : (k i : ℕ) (s : List ℕ) → i + k ≤ length s → drop i s ≡ from k i s ++ drop (i + k) s
split zero i s h = rw add-zero
split (suc k) i s h =
    let lt : i < length s = omega arith in
    let one : suc i ≡ i + 1 = omega arith in
    let same : i + 1 + k ≡ i + suc k = omega arith in
    drop-cons s i 0 lt
    ∙ ap (λ j. get_or s i 0 ∷ drop j s) one
    ∙ ap (λ t. get_or s i 0 ∷ t) (split k (i + 1) s (omega arith) ∙ ap (λ n. from k (i + 1) s ++ drop n s) same)

pub whole : (k : ℕ) (s : List ℕ) → k ≤ length s → s ≡ from k 0 s ++ drop k s
whole k s h =
    let z : 0 + k ≡ k = zero-add k in
    split k 0 s (omega arith) ∙ ap (λ n. from k 0 s ++ drop n s) z

-- what a pattern `[.., rest @ ..]` with k names before the rest calls the rest
pub rest_is : (k : ℕ) (s : List ℕ) → take (length s - k) (drop k s) ≡ drop k s
rest_is k s = take_all (length s - k) (drop k s) (simp length-drop (omega arith))

-- the first byte of a number, and the others
step : (n a m : ℕ) → a < 256 → n ≡ a + m * 256 → (n % 256 ≡ a) × (n / 256 ≡ m)
step n a m h e = (omega arith, omega arith)

-- bytes are written back, and a number is read back
pub le_unle : (k i : ℕ) (s : List ℕ) → Bytes s → le k (unle (from k i s)) ≡ from k i s
le_unle zero i s b = refl
le_unle (suc k) i s b =
    let m = unle (from k (i + 1) s) in
    let p = step (get_or s i 0 + m * 256) (get_or s i 0) m (b i) refl in
    ap (λ x. x ∷ le k ((get_or s i 0 + m * 256) / 256)) p.0
    ∙ ap (λ x. get_or s i 0 ∷ le k x) p.1
    ∙ ap (λ x. get_or s i 0 ∷ x) (le_unle k (i + 1) s b)

pub unle_le : (k n : ℕ) → n < 256 ^ k → unle (le k n) ≡ n
unle_le zero n h = let l : n < 1 = h in omega arith
unle_le (suc k) n h =
    let p : 256 ^ suc k ≡ 256 ^ k * 256 = pow-suc 256 k in
    let l : n / 256 < 256 ^ k = omega arith in
    let e = unle_le k (n / 256) l in
    omega arith

pub unle_lt : (k i : ℕ) (s : List ℕ) → Bytes s → unle (from k i s) < 256 ^ k
unle_lt zero i s b = lit< tt
unle_lt (suc k) i s b =
    let p : 256 ^ suc k ≡ 256 ^ k * 256 = pow-suc 256 k in
    let l = unle_lt k (i + 1) s b in
    let h = b i in
    omega arith

pub length_le : (k n : ℕ) → length (le k n) ≡ k
length_le zero n = refl
length_le (suc k) n = ap suc (length_le k (n / 256))

-- the numbers of 2, 4 and 8 bytes are such numbers
pub two_is : (s : List ℕ) (i : ℕ) → two_at s i ≡ unle (from 2 i s)
two_is s i = omega arith

pub four_is : (s : List ℕ) (i : ℕ) → four_at s i ≡ unle (from 4 i s)
four_is s i =
    let a : i + 1 + 1 ≡ i + 2 = omega arith in
    let b : i + 2 + 1 ≡ i + 3 = omega arith in
    rw (a, b) (omega arith)

pub eight_is : (s : List ℕ) (i : ℕ) → eight_at s i ≡ unle (from 8 i s)
eight_is s i =
    let a : i + 1 + 1 ≡ i + 2 = omega arith in
    let b : i + 2 + 1 ≡ i + 3 = omega arith in
    let c : i + 3 + 1 ≡ i + 4 = omega arith in
    let d : i + 4 + 1 ≡ i + 5 = omega arith in
    let e : i + 5 + 1 ≡ i + 6 = omega arith in
    let f : i + 6 + 1 ≡ i + 7 = omega arith in
    rw (a, b, c, d, e, f) (omega arith)

-- the bytes at the front of a list are those of the number that stands there
pub le_at : (k i n : ℕ) (s : List ℕ) → Bytes s → n ≡ unle (from k i s) → le k n ≡ from k i s
le_at k i n s b e = ap (λ m. le k m) e ∙ le_unle k i s b

-- the forms of a number by its size
pub encode_1 : (n : ℕ) → n < 253 → encode n ≡ n ∷ []
encode_1 n h = rw (lt-ltb n 253 h)

pub encode_2 : (n : ℕ) → 253 ≤ n → n < 65536 → encode n ≡ 253 ∷ le 2 n
encode_2 n h k = rw (le-ltb n 253 h, lt-ltb n 65536 k)

pub encode_4 : (n : ℕ) → 65536 ≤ n → n < 4294967296 → encode n ≡ 254 ∷ le 4 n
encode_4 n h k = rw (le-ltb n 253 (omega arith), le-ltb n 65536 h, lt-ltb n 4294967296 k)

pub encode_8 : (n : ℕ) → 4294967296 ≤ n → encode n ≡ 255 ∷ le 8 n
encode_8 n h = rw (le-ltb n 253 (omega arith), le-ltb n 65536 (omega arith), le-ltb n 4294967296 h)

-- the bytes that `to_le_bytes` gives, named one by one, after a first byte of 255
pub encode_array : (n : ℕ) (r : List ℕ) → 4294967296 ≤ n → r ≡ (n % 256) ∷ (n / 256 % 256) ∷ (n / 65536 % 256) ∷ (n / 16777216 % 256) ∷ (n / 4294967296 % 256) ∷ (n / 1099511627776 % 256) ∷ (n / 281474976710656 % 256) ∷ (n / 72057594037927936 % 256) ∷ [] → encode n ≡ 255 ∷ get_or r 0 0 ∷ get_or r 1 0 ∷ get_or r 2 0 ∷ get_or r 3 0 ∷ get_or r 4 0 ∷ get_or r 5 0 ∷ get_or r 6 0 ∷ get_or r 7 0 ∷ []
encode_array n r h e =
    let p2 : n / 256 / 256 ≡ n / 65536 = omega arith in
    let p3 : n / 65536 / 256 ≡ n / 16777216 = omega arith in
    let p4 : n / 16777216 / 256 ≡ n / 4294967296 = omega arith in
    let p5 : n / 4294967296 / 256 ≡ n / 1099511627776 = omega arith in
    let p6 : n / 1099511627776 / 256 ≡ n / 281474976710656 = omega arith in
    let p7 : n / 281474976710656 / 256 ≡ n / 72057594037927936 = omega arith in
    encode_8 n h ∙ rw (p2, p3, p4, p5, p6, p7, e)
