-- What a line of each command looks like, whatever way it is read.
use Rattle.std.specs.Prelude.{◌≡◌, ℕ, ◌+◌, ◌-◌, ◌*◌, ◌<◌, true, List, [], ◌∷◌, ◌++◌, Some}
use Rattle.script.specs.declared.command.Command.{Command}
use Rattle.script.specs.declared.command.Command.TheVariants.{Start, Connect, Disconnect, Balance}
use Rattle.script.specs.Commands.{digit, command_of}

-- each byte is a decimal digit
abbrev pub AllDigits : List ℕ → Type 0
AllDigits [] = Unit {0}
AllDigits (c ∷ cs) = (digit c ≡ true) × AllDigits cs

-- the value of digits, the first weighing most, after a number n
abbrev pub decimal_value : ℕ → List ℕ → ℕ
decimal_value n [] = n
decimal_value n (c ∷ cs) = decimal_value (n * 10 + (c - 48)) cs

-- ds writes n below a limit: one digit or more, leading zeros allowed
pub record Numeral (limit n : ℕ) (ds : List ℕ) : Type 0 where
  pub some : ds ≡ [] → ⊥
  pub digits : AllDigits ds
  pub value : decimal_value 0 ds ≡ n
  pub fits : n < limit

-- a space and a numeral before what follows
abbrev pub spaced : List ℕ → List ℕ → List ℕ
spaced ds rest = 32 ∷ (ds ++ rest)

-- the forms: s H M L, +, -, ? kind argument
abbrev pub Form : List ℕ → Command → Type 0
Form line (Start h m l) = (x : List ℕ) × (y : List ℕ) × (z : List ℕ) × Numeral 18446744073709551616 h x × Numeral 18446744073709551616 m y × Numeral 18446744073709551616 l z × (line ≡ 115 ∷ spaced x (spaced y (spaced z [])))
Form line Connect = line ≡ 43 ∷ []
Form line Disconnect = line ≡ 45 ∷ []
Form line (Balance k a) = (x : List ℕ) × (y : List ℕ) × Numeral 256 k x × Numeral 18446744073709551616 a y × (line ≡ 63 ∷ spaced x (spaced y []))

-- A line is read as a command exactly when it has that command's form.
abbrev pub ReadsEachForm : Type 0
ReadsEachForm = (line : List ℕ) (k : Command) → (command_of line ≡ Some k → Form line k) × (Form line k → command_of line ≡ Some k)
