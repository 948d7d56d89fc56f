-- What a badge and a clock say of a lock, a witness and a height.
use Rattle.std.specs.Prelude.{ℕ, ◌/◌, ◌%◌, Bool, ◌&&◌, List, [], ◌∷◌, length, ◌==◌, nat_le}
use Rattle.std.specs.Str.{bytes_eq}
use Rattle.coins.specs.declared.coin.Lock.{Lock}

-- the 8 bytes of a number, least byte first
abbrev pub bytes_of : ℕ → List ℕ
bytes_of n = (n % 256) ∷ (n / 256 % 256) ∷ (n / 65536 % 256) ∷ (n / 16777216 % 256) ∷ (n / 4294967296 % 256) ∷ (n / 1099511627776 % 256) ∷ (n / 281474976710656 % 256) ∷ (n / 72057594037927936 % 256) ∷ []

-- kind 1, and the witness is the bytes of the argument
abbrev pub badge_opens : Lock → List ℕ → ℕ → Bool
badge_opens lock witness height = lock.kind == 1 && bytes_eq witness (bytes_of lock.argument)

-- kind 2, no witness, and the height is at least the argument
abbrev pub clock_opens : Lock → List ℕ → ℕ → Bool
clock_opens lock witness height = lock.kind == 2 && (length witness == 0 && nat_le lock.argument height)
