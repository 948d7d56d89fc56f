-- How a line of a script is read: its first character decides, each operand follows one space.
use Rattle.std.specs.Prelude.{ℕ, ◌+◌, ◌-◌, ◌*◌, Bool, false, cond, List, [], ◌∷◌, Some, None, Option, ◌==◌, nat_le, nat_lt}
use Rattle.script.specs.declared.command.Command.{Command}
use Rattle.script.specs.declared.command.Command.TheVariants.{Start, Connect, Disconnect, Balance}

abbrev pub digit : ℕ → Bool
digit c = cond (nat_le 48 c) (nat_le c 57) false

-- the number that n and then the leading digits write
abbrev pub value_after : ℕ → List ℕ → ℕ
value_after n [] = n
value_after n (c ∷ cs) = cond (digit c) (value_after (n * 10 + (c - 48)) cs) n

-- what stands after the leading digits
abbrev pub after_digits : List ℕ → List ℕ
after_digits [] = []
after_digits (c ∷ cs) = cond (digit c) (after_digits cs) (c ∷ cs)

-- one digit or more, whose number is below 2 ^ 64: the number and what is left
abbrev pub numeral_of : List ℕ → Option (ℕ × List ℕ)
numeral_of [] = None
numeral_of (c ∷ cs) = cond (digit c) (cond (nat_lt (value_after 0 (c ∷ cs)) 18446744073709551616) (Some (value_after 0 (c ∷ cs), after_digits (c ∷ cs))) None) None

-- one space and a numeral
unfoldable pub operand_of : List ℕ → Option (ℕ × List ℕ)
operand_of [] = None
operand_of (c ∷ cs) = cond (c == 32) (numeral_of cs) None

-- nothing follows a whole command
abbrev pub whole : List ℕ → Command → Option Command
whole [] k = Some k
whole (c ∷ cs) k = None

abbrev pub with : {X Y : Type 0} → Option X → (X → Option Y) → Option Y
with None f = None
with (Some x) f = f x

abbrev pub start_of : List ℕ → Option Command
start_of cs = with (operand_of cs) (λ h. with (operand_of h.1) (λ m. with (operand_of m.1) (λ l. whole l.1 (Start h.0 m.0 l.0))))

abbrev pub balance_of : List ℕ → Option Command
balance_of cs = with (operand_of cs) (λ k. cond (nat_lt k.0 256) (with (operand_of k.1) (λ a. whole a.1 (Balance k.0 a.0))) None)

-- the first character: s, +, - or ?
abbrev pub command_of : List ℕ → Option Command
command_of [] = None
command_of (c ∷ cs) = cond (c == 115) (start_of cs) (cond (c == 43) (whole cs Connect) (cond (c == 45) (whole cs Disconnect) (cond (c == 63) (balance_of cs) None)))
