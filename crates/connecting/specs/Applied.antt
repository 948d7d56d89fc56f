-- A block applied to the coins of a view.
--     setting     what the effect of a block depends on, by the capacity, the meaning of conditions and the site
--     Answers     what the rules answer was answered, and the coins are the coins they leave
--     spent, made the inputs spent and the outputs made at a site, from the first on
--     value_of    the transaction that a reader hands out
--     Moneyed     a transaction's outputs together are worth no more than the greatest value
use Rattle.std.specs.Prelude.{◌≡◌, ℕ, ◌+◌, ◌≤◌, Bool, List, length, Ok, Err, Result, MatchResult}
use Rattle.coins.specs.declared.coin.Lock.{Lock}
use Rattle.blockform.specs.declared.reader.Transaction.{Transaction}
use Rattle.coinsview.specs.Meaning.{Coins}
use Rattle.blockform.specs.Value.{InputValue, OutputValue, TransactionValue}
use Rattle.blockform.specs.Readers.{items_of}
use Rattle.connecting.specs.declared.block.Site.{Site}
use Rattle.connecting.specs.Parts.{inputs_in, outputs_in}
use Rattle.connecting.specs.declared.block.Sums.{Sums}
use Rattle.connecting.specs.declared.fault.TransactionFault.{TransactionFault}
use Rattle.connecting.specs.Rules.{Setting, Paid, then, worth, coins_made, value_burned, spend_all, make_all}

abbrev pub setting : {C : Type 0} → ℕ → (C → Lock → List ℕ → ℕ → Bool) → Site C → Setting
setting room opens site = record { room = room; opens = opens site.condition.now; halving = site.halving; maturity = site.maturity }

abbrev pub value_of : Transaction → TransactionValue
value_of t = record { id = t.id.now; inputs = inputs_in (items_of t.inputs); outputs = outputs_in (items_of t.outputs) }

abbrev pub Moneyed : TransactionValue → Type 0
Moneyed x = worth x.outputs ≤ 2100000000000000

abbrev pub Answers : {A F : Type 0} → Result (Coins × A) F → Result A F → Coins → Type 0
Answers r result n = MatchResult result (λ a. r ≡ Ok (n, a)) (λ f. r ≡ Err f)

abbrev pub spent : {C : Type 0} → (C → Lock → List ℕ → ℕ → Bool) → Site C → List InputValue → Coins → Result Paid TransactionFault
spent opens site xs m = spend_all (opens site.condition.now) site.maturity site.height 0 xs m 0

-- what the outputs of a transaction come to by themselves
abbrev pub outputs_sums : List OutputValue → Sums
outputs_sums ys = record { made = coins_made ys; spent = 0; fees = 0; burned = value_burned ys }

abbrev pub made : {C : Type 0} → ℕ → Site C → List ℕ → Bool → List OutputValue → Coins → Result (Coins × Sums) TransactionFault
made room site id coinbase ys m = then (make_all room site.height id coinbase 0 ys m) (λ n. Ok (n, outputs_sums ys))

-- the undo entries that a transaction after the coinbase needs
abbrev pub spending_needs : TransactionValue → ℕ
spending_needs x = length x.inputs + coins_made x.outputs
