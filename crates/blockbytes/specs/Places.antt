-- The values that stand at a place of bytes whose form is right.
use Rattle.std.specs.Prelude.{ℕ, zero, suc, ◌+◌, cond, List, [], ◌∷◌, length, take, drop, Ok, Err, Result, nat_lt, slice_index}
use Rattle.compact.specs.Compact.{four_at, eight_at}
use Rattle.blockbytes.specs.declared.fault.FormFault.{FormFault}
use Rattle.blockbytes.specs.declared.fault.FormFault.TheVariants.{OverSize}
use Rattle.blockbytes.specs.Form.{then, block}
use Rattle.blockbytes.specs.Value.{InputValue, OutputValue, TransactionValue, BlockValue}

-- the n values that stand from a place on, one after another, and where they end
abbrev pub list_at : {X : Type 0} → ℕ → (ℕ → X) → (ℕ → ℕ) → ℕ → List X
list_at zero value end at = []
list_at (suc n) value end at = value at ∷ list_at n value end (end at)

abbrev pub end_of : ℕ → (ℕ → ℕ) → ℕ → ℕ
end_of zero end at = at
end_of (suc n) end at = end_of n end (end at)

abbrev pub id_at : List ℕ → ℕ → List ℕ
id_at b at = take 32 (drop at b)

abbrev pub input_at : List ℕ → ℕ → InputValue
input_at b at = record { outpoint = record { id = id_at b at; index = four_at b (at + 32) }; witness = take (slice_index b (at + 36)) (drop (at + 37) b) }

abbrev pub input_end : List ℕ → ℕ → ℕ
input_end b at = at + 37 + slice_index b (at + 36)

abbrev pub output_at : List ℕ → ℕ → OutputValue
output_at b at = record { value = eight_at b at; lock = record { kind = slice_index b (at + 8); argument = eight_at b (at + 9) } }

abbrev pub output_end : ℕ → ℕ
output_end at = at + 17

-- a count at a place, what that many values after it are, and where they end
abbrev pub counted_at : {X : Type 0} → (ℕ → X) → (ℕ → ℕ) → List ℕ → ℕ → List X
counted_at value end b at = list_at (slice_index b at) value end (at + 1)

abbrev pub counted_end : (ℕ → ℕ) → List ℕ → ℕ → ℕ
counted_end end b at = end_of (slice_index b at) end (at + 1)

-- where a transaction's inputs end
abbrev pub inputs_end : List ℕ → ℕ → ℕ
inputs_end b at = counted_end (input_end b) b (at + 32)

abbrev pub transaction_at : List ℕ → ℕ → TransactionValue
transaction_at b at = record { id = id_at b at; inputs = counted_at (input_at b) (input_end b) b (at + 32); outputs = counted_at (output_at b) output_end b (inputs_end b at) }

abbrev pub transaction_end : List ℕ → ℕ → ℕ
transaction_end b at = counted_end output_end b (inputs_end b at)

abbrev pub block_at : List ℕ → BlockValue
block_at b = record { id = id_at b 0; previous = id_at b 32; transactions = counted_at (transaction_at b) (transaction_end b) b 64 }

-- the block that bytes write, or the first fault: the size, and then the form from the front
unfoldable pub read_block : List ℕ → Result BlockValue FormFault
read_block b = cond (nat_lt 65536 (length b)) (Err OverSize) (then (block b) (λ _. Ok (block_at b)))
