-- Compact sizes: how a number is written, and how bytes are read as one.
use Rattle.std.specs.Prelude.{◌≡◌, ℕ, zero, suc, ◌+◌, ◌*◌, ◌/◌, ◌%◌, ◌^◌, ◌<◌, cond, List, [], ◌∷◌, ◌++◌, length, drop, Ok, Err, Result, ◌==◌, nat_lt, slice_index}
use Rattle.compact.specs.declared.SizeFault.{SizeFault}
use Rattle.compact.specs.declared.SizeFault.TheVariants.{Cut, LongForm}

-- the k bytes of n, least first
abbrev pub le : ℕ → ℕ → List ℕ
le zero n = []
le (suc k) n = (n % 256) ∷ le k (n / 256)

-- the shortest form of n, for n below 2 ^ 64
abbrev pub encode : ℕ → List ℕ
encode n = cond (nat_lt n 253) (n ∷ []) (cond (nat_lt n 65536) (253 ∷ le 2 n) (cond (nat_lt n 4294967296) (254 ∷ le 4 n) (255 ∷ le 8 n)))

-- the number in the 2, 4 or 8 bytes from i on, least byte first
abbrev pub two_at : List ℕ → ℕ → ℕ
two_at s i = slice_index s i + slice_index s (i + 1) * 256

abbrev pub four_at : List ℕ → ℕ → ℕ
four_at s i = slice_index s i + slice_index s (i + 1) * 256 + slice_index s (i + 2) * 65536 + slice_index s (i + 3) * 16777216

abbrev pub eight_at : List ℕ → ℕ → ℕ
eight_at s i = slice_index s i + slice_index s (i + 1) * 256 + slice_index s (i + 2) * 65536 + slice_index s (i + 3) * 16777216 + slice_index s (i + 4) * 4294967296 + slice_index s (i + 5) * 1099511627776 + slice_index s (i + 6) * 281474976710656 + slice_index s (i + 7) * 72057594037927936

-- by the first byte: how many bytes the form has, its number, and the least number that may have this form
abbrev pub by_marker : {X : Type 0} → List ℕ → X → X → X → X → X
by_marker s one three five nine = cond (nat_lt (slice_index s 0) 253) one (cond (slice_index s 0 == 253) three (cond (slice_index s 0 == 254) five nine))

abbrev pub span : List ℕ → ℕ
span s = by_marker s 1 3 5 9

abbrev pub value : List ℕ → ℕ
value s = by_marker s (slice_index s 0) (two_at s 1) (four_at s 1) (eight_at s 1)

abbrev pub least : List ℕ → ℕ
least s = by_marker s 0 253 65536 4294967296

-- the number at the front and what follows it, or the fault: bytes are missing, or the form is not the shortest
unfoldable pub read_size : List ℕ → Result (ℕ × List ℕ) SizeFault
read_size s = cond (nat_lt (length s) (span s)) (Err Cut) (cond (nat_lt (value s) (least s)) (Err LongForm) (Ok (value s, drop (span s) s)))

abbrev pub Bytes : List ℕ → Type 0
Bytes s = (i : ℕ) → slice_index s i < 256

-- reading what was written gives the number back, whatever follows it
abbrev pub WrittenIsRead : Type 0
WrittenIsRead = (n : ℕ) (rest : List ℕ) → n < 2 ^ 64 → read_size (encode n ++ rest) ≡ Ok (n, rest)

-- writing what was read gives the bytes back
abbrev pub ReadIsWritten : Type 0
ReadIsWritten = (s : List ℕ) (n : ℕ) (rest : List ℕ) → Bytes s → read_size s ≡ Ok (n, rest) → encode n ++ rest ≡ s

-- one encoding a number, one number an encoding
abbrev pub OneEncoding : Type 0
OneEncoding = (n m : ℕ) (t u : List ℕ) → n < 2 ^ 64 → m < 2 ^ 64 → encode n ++ t ≡ encode m ++ u → (n ≡ m) × (t ≡ u)

-- a number below 253 is read from its one byte alone, and no byte is no number
abbrev pub SmallIsAByte : Type 0
SmallIsAByte = (s : List ℕ) (n : ℕ) (rest : List ℕ) → n < 253 → read_size s ≡ Ok (n, rest) → s ≡ n ∷ rest

abbrev pub NothingIsCut : Type 0
NothingIsCut = read_size [] ≡ Err Cut

-- 252 is FC, 253 is FD FD 00, and FD FC 00 is refused
abbrev pub Examples : Type 0
Examples = (encode 252 ≡ 252 ∷ []) × (encode 253 ≡ 253 ∷ 253 ∷ 0 ∷ []) × (read_size (253 ∷ 252 ∷ 0 ∷ []) ≡ Err LongForm)
