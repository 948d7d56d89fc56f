-- Identifiers by words of eight bytes. Assumes nothing.
use Rattle.std.specs.Prelude.{ℕ, List, [], ◌∷◌, take, drop}
use Rattle.std.specs.Int.Digits.{number_from_digits}

-- the eight bytes from a place on, as a number: the first weighs most
abbrev pub word_at : List ℕ → ℕ → ℕ
word_at id place = number_from_digits 256 (take 8 (drop place id))

-- the words of 32 bytes
abbrev pub words_of : List ℕ → List ℕ
words_of id = word_at id 0 ∷ word_at id 8 ∷ word_at id 16 ∷ word_at id 24 ∷ []
