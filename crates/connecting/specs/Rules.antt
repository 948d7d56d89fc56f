-- The rules of connecting: the checks of a block in their order, and its effect on the coins.
--     checks      what is tested before a coin is touched
--     needs       the undo entries that a block needs
--     effect      the transactions applied in order, and the coinbase's claim
use Rattle.std.specs.Prelude.{◌≡◌, ℕ, ◌+◌, ◌-◌, ◌^◌, ◌<◌, ◌≤◌, Bool, true, false, cond, ◌&&◌, ◌⊎◌, List, [], ◌∷◌, length, Some, None, Ok, Err, Option, Result, ◌==◌, nat_le, nat_lt}
use Rattle.std.specs.declared.cmp.Ordering.TheVariants.{Less, Equal, Greater}
use Rattle.std.specs.declared.cmp.Ordering.{Ordering}
use Rattle.std.proofs.Common.{inl, inr}
use Rattle.std.specs.Cmp.Lexicographic.{slice_cmp}
use Rattle.std.proofs.lemmas.Bool.Decides.{leb_tells}
use Rattle.coins.specs.declared.coin.Coin.{Coin}
use Rattle.coins.specs.declared.coin.Lock.{Lock}
use Rattle.coins.specs.declared.outpoint.Outpoint.{Outpoint}
use Rattle.coins.specs.Order.{order, null_outpoint}
use Rattle.coinsview.specs.declared.fault.ViewFault.{ViewFault}
use Rattle.coinsview.specs.Meaning.{Coins, coin_at, with_coin, without, put_answer}
use Rattle.blockform.specs.Value.{InputValue, OutputValue, TransactionValue, BlockValue}
use Rattle.connecting.specs.Subsidy.{subsidy_at}
use Rattle.connecting.specs.declared.fault.InputFault.{InputFault}
use Rattle.connecting.specs.declared.fault.InputFault.TheVariants.{Missing, Immature, Shut, View}
use Rattle.connecting.specs.declared.fault.TransactionFault.{TransactionFault}
use Rattle.connecting.specs.declared.fault.TransactionFault.TheVariants.{Coinbase2, CbData, NoInput, NoOutput, Money, Under, Null, Item}
use Rattle.connecting.specs.declared.fault.BlockFault.{BlockFault}
use Rattle.connecting.specs.declared.fault.BlockFault.TheVariants.{Parent, LastHeight, NoCoinbase, Claim, Transaction}
use Rattle.connecting.specs.declared.block.Sums.{Sums}
use Rattle.std.specs.Ordering.{nat_cmp}

-- what the effect of a block depends on, beside the coins and its height: the capacity, the condition, the halving interval and the maturity
pub record Setting : Type 0 where
  pub room : ℕ
  pub opens : Lock → List ℕ → ℕ → Bool
  pub halving : ℕ
  pub maturity : ℕ

-- a step and then another, unless the first refuses
abbrev pub then : {X Y F : Type 0} → Result X F → (X → Result Y F) → Result Y F
then (Ok x) f = f x
then (Err e) f = Err e

-- a fault with the place at which it was met
abbrev pub at_item : {X : Type 0} → ℕ → Result X InputFault → Result X TransactionFault
at_item i (Ok x) = Ok x
at_item i (Err f) = Err (Item i f)

abbrev pub at_transaction : {X : Type 0} → ℕ → Result X TransactionFault → Result X BlockFault
at_transaction t (Ok x) = Ok x
at_transaction t (Err f) = Err (Transaction t f)

abbrev pub of_view : {X : Type 0} → Result X ViewFault → Result X InputFault
of_view (Ok x) = Ok x
of_view (Err f) = Err (View f)

-- ---- tests

abbrev pub equal : Ordering → Bool
equal Less = false
equal Equal = true
equal Greater = false

abbrev pub is_null : Outpoint → Bool
is_null k = equal (order k null_outpoint)

abbrev pub same_id : List ℕ → List ℕ → Bool
same_id x y = equal (slice_cmp nat_cmp x y)

-- a coinbase has exactly one input, the null outpoint
abbrev pub is_coinbase : List InputValue → Bool
is_coinbase [] = false
is_coinbase (x ∷ []) = is_null x.outpoint
is_coinbase (x ∷ (y ∷ xs)) = false

-- an output of kind 0 burns, and makes no coin
abbrev pub burns : OutputValue → Bool
burns y = y.lock.kind == 0

abbrev pub worth : List OutputValue → ℕ
worth [] = 0
worth (y ∷ ys) = y.value + worth ys

abbrev pub coins_made : List OutputValue → ℕ
coins_made [] = 0
coins_made (y ∷ ys) = cond (burns y) (coins_made ys) (1 + coins_made ys)

abbrev pub value_burned : List OutputValue → ℕ
value_burned [] = 0
value_burned (y ∷ ys) = cond (burns y) (y.value + value_burned ys) (value_burned ys)

-- ---- the checks of a transaction

-- the first output, from place i on, whose value or the sum up to it is above the greatest value
abbrev pub money : ℕ → ℕ → List OutputValue → Result Unit TransactionFault
money i sum [] = Ok tt
money i sum (y ∷ ys) = cond (nat_le y.value 2100000000000000 && nat_le (sum + y.value) 2100000000000000) (money (i + 1) (sum + y.value) ys) (Err (Money i))

-- the first null outpoint among the inputs, from place i on
abbrev pub no_null : ℕ → List InputValue → Result Unit TransactionFault
no_null i [] = Ok tt
no_null i (x ∷ xs) = cond (is_null x.outpoint) (Err (Null i)) (no_null (i + 1) xs)

abbrev pub some_output : List OutputValue → Result Unit TransactionFault
some_output [] = Err NoOutput
some_output (y ∷ ys) = Ok tt

abbrev pub some_input : List InputValue → Result Unit TransactionFault
some_input [] = Err NoInput
some_input (x ∷ xs) = Ok tt

-- a coinbase's witness has 2 bytes at least
abbrev pub some_data : List InputValue → Result Unit TransactionFault
some_data [] = Err CbData
some_data (x ∷ xs) = cond (nat_lt (length x.witness) 2) (Err CbData) (Ok tt)

abbrev pub coinbase_checks : TransactionValue → Result Unit TransactionFault
coinbase_checks x = then (some_data x.inputs) (λ _. then (some_output x.outputs) (λ _. money 0 0 x.outputs))

abbrev pub spending_checks : TransactionValue → Result Unit TransactionFault
spending_checks x =
    cond (is_coinbase x.inputs) (Err Coinbase2) (then (some_input x.inputs) (λ _. then (some_output x.outputs) (λ _. then (money 0 0 x.outputs) (λ _. no_null 0 x.inputs))))

-- ---- the checks of a block

abbrev pub others_checks : ℕ → List TransactionValue → Result Unit BlockFault
others_checks t [] = Ok tt
others_checks t (x ∷ xs) = then (at_transaction t (spending_checks x)) (λ _. others_checks (t + 1) xs)

abbrev pub transactions_checks : List TransactionValue → Result Unit BlockFault
transactions_checks [] = Err NoCoinbase
transactions_checks (x ∷ xs) = cond (is_coinbase x.inputs) (then (at_transaction 0 (coinbase_checks x)) (λ _. others_checks 1 xs)) (Err NoCoinbase)

-- of a block that would follow a tip
abbrev pub checks : List ℕ → ℕ → ℕ → BlockValue → Result Unit BlockFault
checks tip height last b = cond (same_id b.previous tip) (cond (nat_lt height last) (transactions_checks b.transactions) (Err LastHeight)) (Err Parent)

-- ---- the undo entries that a block needs

abbrev pub others_needs : List TransactionValue → ℕ
others_needs [] = 0
others_needs (x ∷ xs) = length x.inputs + coins_made x.outputs + others_needs xs

abbrev pub transactions_needs : List TransactionValue → ℕ
transactions_needs [] = 0
transactions_needs (x ∷ xs) = coins_made x.outputs + others_needs xs

-- its mark, the inputs outside the coinbase, and the outputs that make a coin
abbrev pub needs : BlockValue → ℕ
needs b = 1 + transactions_needs b.transactions

-- ---- the effect

-- a coin of a value that may not be too large
abbrev pub coin_by : (v : ℕ) → ((nat_le v 2100000000000000 ≡ true) × (v ≤ 2100000000000000)) ⊎ ((nat_le v 2100000000000000 ≡ false) × (2100000000000000 < v)) → Lock → ℕ → Bool → Option Coin
coin_by v (inl p) l h b = Some (record { value = v; lock = l; height = h; coinbase = b; money = p.1 })
coin_by v (inr p) l h b = None

abbrev pub coin_of : OutputValue → ℕ → Bool → Option Coin
coin_of y h b = coin_by y.value (leb_tells y.value 2100000000000000) y.lock h b

-- coins, and what was paid by inputs
abbrev pub Paid : Type 0
Paid = Coins × ℕ

module _ (opens : Lock → List ℕ → ℕ → Bool) (maturity h : ℕ) where
  -- an input at height h, by the coin that is there: it is there, old enough, and opened by the witness
  abbrev pub spend : Option Coin → List ℕ → Result Coin InputFault
  spend None w = Err Missing
  spend (Some c) w = cond (c.coinbase && nat_lt (h - c.height) maturity) (Err Immature) (cond (opens c.lock w h) (Ok c) (Err Shut))

  -- the inputs from place i on: each is tested, and its coin taken
  abbrev pub spend_all : ℕ → List InputValue → Coins → ℕ → Result Paid TransactionFault
  spend_all i [] m paid = Ok (m, paid)
  spend_all i (x ∷ xs) m paid = then (at_item i (spend (coin_at x.outpoint m) x.witness)) (λ c. spend_all (i + 1) xs (without x.outpoint m) (paid + c.value))

-- one output at place i of a transaction, by the coin that it makes
abbrev pub make : ℕ → List ℕ → ℕ → Option Coin → Coins → Result Coins TransactionFault
make room id i None m = Err (Money i)
make room id i (Some c) m = then (at_item i (of_view (put_answer room (record { id = id; index = i }) m))) (λ _. Ok (with_coin (record { id = id; index = i }) c m))

module _ (room h : ℕ) where
  -- the outputs from place i on, those that burn aside
  abbrev pub make_all : List ℕ → Bool → ℕ → List OutputValue → Coins → Result Coins TransactionFault
  make_all id b i [] m = Ok m
  make_all id b i (y ∷ ys) m = then (cond (burns y) (Ok m) (make room id i (coin_of y h b) m)) (λ n. make_all id b (i + 1) ys n)

abbrev pub none : Sums
none = record { made = 0; spent = 0; fees = 0; burned = 0 }

-- sums that can be added
abbrev pub Fit : Sums → Sums → Type 0
Fit a b = (a.made + b.made < 2 ^ 64) × (a.spent + b.spent < 2 ^ 64) × (a.fees + b.fees < 2 ^ 64) × (a.burned + b.burned < 2 ^ 64)

abbrev pub added : Sums → Sums → Sums
added a b = record { made = a.made + b.made; spent = a.spent + b.spent; fees = a.fees + b.fees; burned = a.burned + b.burned }

module _ (s : Setting) (h : ℕ) where
  -- a transaction after the coinbase: its coins are taken, its inputs are worth its outputs, its coins are put
  abbrev pub spending : TransactionValue → Coins → Result (Coins × Sums) TransactionFault
  spending x m =
      then (spend_all s.opens s.maturity h 0 x.inputs m 0) (λ p. cond (nat_lt p.1 (worth x.outputs)) (Err Under) (then (make_all s.room h x.id false 0 x.outputs p.0) (λ n. Ok (n, record { made = coins_made x.outputs; spent = length x.inputs; fees = p.1 - worth x.outputs; burned = value_burned x.outputs }))))

  -- the transactions from place t on, with what those before came to
  abbrev pub spending_all : ℕ → List TransactionValue → Coins → Sums → Result (Coins × Sums) BlockFault
  spending_all t [] m a = Ok (m, a)
  spending_all t (x ∷ xs) m a = then (at_transaction t (spending x m)) (λ r. spending_all (t + 1) xs r.0 (added a r.1))

  -- what the block comes to, with its coinbase x and what the others came to
  abbrev pub whole : TransactionValue → Sums → Sums
  whole x a = record {
    made = coins_made x.outputs + a.made;
    spent = a.spent;
    fees = a.fees;
    burned = (subsidy_at s.halving h + a.fees - worth x.outputs) + value_burned x.outputs + a.burned;
  }

  -- a block: its coinbase puts its coins, the other transactions are applied in order, and the coinbase claims no more than subsidy and fees
  abbrev pub effect : List TransactionValue → Coins → Result (Coins × Sums) BlockFault
  effect [] m = Err NoCoinbase
  effect (x ∷ xs) m =
      then (at_transaction 0 (make_all s.room h x.id true 0 x.outputs m)) (λ n. then (spending_all 1 xs n none) (λ r. cond (nat_lt (subsidy_at s.halving h + r.1.fees) (worth x.outputs)) (Err Claim) (Ok (r.0, whole x r.1))))
