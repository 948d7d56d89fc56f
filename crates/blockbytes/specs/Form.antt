-- How a block's bytes are read, from a place in the block on: the next place, or the first fault and where its field begins.
use Rattle.std.specs.Prelude.{◌≡◌, ℕ, zero, suc, ◌+◌, ◌-◌, ◌^◌, ◌<◌, cond, List, length, drop, Ok, Err, Result, nat_lt}
use Rattle.compact.specs.Compact.{read_size}
use Rattle.compact.specs.declared.SizeFault.{SizeFault}
use Rattle.compact.specs.declared.SizeFault.TheVariants as size
use Rattle.blockbytes.specs.declared.fault.FormFault.{FormFault}
use Rattle.blockbytes.specs.declared.fault.FormFault.TheVariants.{Cut, LongForm, OverCount, Tail}

-- a step, and then another from where it ended
abbrev pub then : {X Y : Type 0} → Result X FormFault → (X → Result Y FormFault) → Result Y FormFault
then (Ok x) f = f x
then (Err e) f = Err e

-- a field of k bytes
abbrev pub field : ℕ → List ℕ → ℕ → Result ℕ FormFault
field k b at = cond (nat_lt (length b) (at + k)) (Err (Cut at)) (Ok (at + k))

-- what a compact size at a place of l bytes answers, where its number is at most `limit`
abbrev pub at_most : ℕ → ℕ → ℕ → Result (ℕ × List ℕ) SizeFault → Result (ℕ × ℕ) FormFault
at_most limit l at (Ok p) = cond (nat_lt limit p.0) (Err (OverCount at)) (Ok (p.0, l - length p.1))
at_most limit l at (Err size.Cut) = Err (Cut at)
at_most limit l at (Err size.LongForm) = Err (LongForm at)

-- a count of at most `limit`, and the place after it
unfoldable pub count : ℕ → List ℕ → ℕ → Result (ℕ × ℕ) FormFault
count limit b at = at_most limit (length b) at (read_size (drop at b))

-- from a place to the next, or a fault
abbrev pub Step : Type 0
Step = ℕ → Result ℕ FormFault

-- what a step of the code may answer is what `form` says
abbrev pub Computes : (ℕ → Result ℕ FormFault → Type 0) → Step → Type 0
Computes post form = (i : ℕ) (r : Result ℕ FormFault) → i < 2 ^ 64 → post i r → r ≡ form i

-- n steps, one after another
abbrev pub times : ℕ → (ℕ → Result ℕ FormFault) → ℕ → Result ℕ FormFault
times zero step at = Ok at
times (suc n) step at = then (step at) (λ i. times n step i)

-- a count of at most 64, and that many steps
abbrev pub counted : (ℕ → Result ℕ FormFault) → List ℕ → ℕ → Result ℕ FormFault
counted step b at = then (count 64 b at) (λ n. times n.0 step n.1)

-- an input: identifier and index of an outpoint, witness length, witness
abbrev pub input : List ℕ → ℕ → Result ℕ FormFault
input b at = then (field 32 b at) (λ i. then (field 4 b i) (λ j. then (count 100 b j) (λ n. field n.0 b n.1)))

-- an output: value, kind and argument
abbrev pub output : List ℕ → ℕ → Result ℕ FormFault
output b at = then (field 8 b at) (λ i. then (field 1 b i) (λ j. field 8 b j))

-- a transaction: its identifier, its inputs, its outputs
abbrev pub transaction : List ℕ → ℕ → Result ℕ FormFault
transaction b at = then (field 32 b at) (λ i. then (counted (input b) b i) (λ j. counted (output b) b j))

-- nothing stands from a place on
abbrev pub ended : List ℕ → ℕ → Result ℕ FormFault
ended b at = cond (nat_lt at (length b)) (Err (Tail at)) (Ok at)

-- a block: its identifier, the previous one, its transactions, and nothing after them
abbrev pub block : List ℕ → Result ℕ FormFault
block b = then (field 32 b 0) (λ i. then (field 32 b i) (λ j. then (counted (transaction b) b j) (λ k. ended b k)))
