-- The book: what a ledger is to answer, by the blocks that stand. It is fed the calls' arguments alone.
--     replay            the coins left by connecting the standing blocks in order to no coins
--     connected, ..     the book after each call
--     connect_answer, ..   what the call answers
use Rattle.std.specs.Prelude.{ℕ, zero, suc, ◌+◌, ◌-◌, min, cond, List, [], ◌∷◌, length, Ok, Err, Result, nat_lt}
use Rattle.coins.specs.declared.coin.Coin.{Coin}
use Rattle.coins.specs.declared.coin.Lock.{Lock}
use Rattle.coins.specs.Same.{same_lock}
use Rattle.coinsview.specs.Meaning.{Coins}
use Rattle.blockbytes.specs.declared.fault.FormFault.{FormFault}
use Rattle.blockform.specs.Value.{BlockValue}
use Rattle.blockform.specs.Places.{read_block}
use Rattle.connecting.specs.declared.block.Sums.{Sums}
use Rattle.connecting.specs.declared.fault.BlockFault.{BlockFault}
use Rattle.connecting.specs.declared.fault.BlockFault.TheVariants.{Form, LogFull}
use Rattle.connecting.specs.Rules.{Setting, then, checks, needs, effect}
use Rattle.connecting.specs.Subsidy.{subsidy_at}
use Rattle.ledger.specs.declared.Tip.{Tip}
use Rattle.ledger.specs.declared.Connected.{Connected}
use Rattle.ledger.specs.declared.Disconnected.{Disconnected}
use Rattle.ledger.specs.declared.Balance.{Balance}
use Rattle.ledger.specs.declared.Outcome.TheVariants.{Clean}
use Rattle.ledger.specs.declared.fault.LedgerFault.{LedgerFault}
use Rattle.ledger.specs.declared.fault.LedgerFault.TheVariants.{Nothing, Block}

-- what a ledger is started with: the capacity, the condition, the halving interval and the maturity; the last height; the start identifier
pub record Terms : Type 0 where
  pub setting : Setting
  pub last : ℕ
  pub start : List ℕ

-- and the standing blocks, the newest first, of which the newest `kept` have their undo entries
pub record Book : Type 0 where
  pub terms : Terms
  pub blocks : List BlockValue
  pub kept : ℕ

abbrev pub fresh : Terms → Book
fresh t = record { terms = t; blocks = []; kept = 0 }

-- the tip's identifier: the last block's, or the start's
abbrev pub tip_id : Terms → List BlockValue → List ℕ
tip_id t [] = t.start
tip_id t (b ∷ bs) = b.id

-- a block connected by the rules to the coins m, above the blocks bs; the room for its undo entries is left aside
abbrev pub accept : Terms → List BlockValue → BlockValue → Coins → Result (Coins × Sums) BlockFault
accept t bs b m = then (checks (tip_id t bs) (length bs) t.last b) (λ _. effect t.setting (length bs + 1) b.transactions m)

abbrev pub coins_after : Result (Coins × Sums) BlockFault → Coins → Coins
coins_after (Ok r) m = r.0
coins_after (Err f) m = m

abbrev pub burned_by : Result (Coins × Sums) BlockFault → ℕ
burned_by (Ok r) = r.1.burned
burned_by (Err f) = 0

-- the coins left by connecting the blocks in order, the oldest first, to no coins
abbrev pub replay : Terms → List BlockValue → Coins
replay t [] = []
replay t (b ∷ bs) = coins_after (accept t bs b (replay t bs)) (replay t bs)

abbrev pub coins_of : Book → Coins
coins_of k = replay k.terms k.blocks

-- what the blocks burned, and the subsidies at their heights
abbrev pub all_burned : Terms → List BlockValue → ℕ
all_burned t [] = 0
all_burned t (b ∷ bs) = burned_by (accept t bs b (replay t bs)) + all_burned t bs

abbrev pub all_subsidies : Terms → List BlockValue → ℕ
all_subsidies t [] = 0
all_subsidies t (b ∷ bs) = subsidy_at t.setting.halving (length bs + 1) + all_subsidies t bs

-- the undo entries that the newest n blocks need
abbrev pub entries_needed : List BlockValue → ℕ → ℕ
entries_needed bs zero = 0
entries_needed [] (suc n) = 0
entries_needed (b ∷ bs) (suc n) = needs b + entries_needed bs n

-- ---- connect

abbrev pub of_form : {X : Type 0} → Result X FormFault → Result X BlockFault
of_form (Ok x) = Ok x
of_form (Err f) = Err (Form f)

-- a block by the rules, on the book's coins; free are 512 entries less what the kept blocks need
abbrev pub connect_block : Book → BlockValue → Result (Coins × Sums) BlockFault
connect_block k b =
    then (checks (tip_id k.terms k.blocks) (length k.blocks) k.terms.last b) (λ _. cond (nat_lt (512 - entries_needed k.blocks k.kept) (needs b)) (Err LogFull) (effect k.terms.setting (length k.blocks + 1) b.transactions (coins_of k)))

-- the block that the bytes are, and what it comes to
abbrev pub connect_bytes : Book → List ℕ → Result (BlockValue × Sums) BlockFault
connect_bytes k bytes = then (of_form (read_block bytes)) (λ b. then (connect_block k b) (λ r. Ok (b, r.1)))

abbrev pub with_block : Book → Result (BlockValue × Sums) BlockFault → Book
with_block k (Ok r) = record { terms = k.terms; blocks = r.0 ∷ k.blocks; kept = suc k.kept }
with_block k (Err f) = k

abbrev pub told : Book → Result (BlockValue × Sums) BlockFault → Result Connected BlockFault
told k (Ok r) = Ok (record { height = length k.blocks + 1; made = r.1.made; spent = r.1.spent; fees = r.1.fees; burned = r.1.burned })
told k (Err f) = Err f

abbrev pub of_block : {X : Type 0} → Result X BlockFault → Result X LedgerFault
of_block (Ok x) = Ok x
of_block (Err f) = Err (Block f)

abbrev pub connected : Book → List ℕ → Book
connected k bytes = with_block k (connect_bytes k bytes)

abbrev pub connect_answer : Book → List ℕ → Result Connected LedgerFault
connect_answer k bytes = of_block (told k (connect_bytes k bytes))

-- ---- disconnect: refused where none is kept, else the last block is dropped

abbrev pub back_by : Terms → List BlockValue → ℕ → Book
back_by t bs zero = record { terms = t; blocks = bs; kept = zero }
back_by t [] (suc n) = record { terms = t; blocks = []; kept = suc n }
back_by t (b ∷ bs) (suc n) = record { terms = t; blocks = bs; kept = n }

abbrev pub disconnected : Book → Book
disconnected k = back_by k.terms k.blocks k.kept

abbrev pub disconnect_by : List BlockValue → ℕ → Result Disconnected LedgerFault
disconnect_by bs zero = Err Nothing
disconnect_by bs (suc n) = Ok (record { height = length bs; outcome = Clean })

abbrev pub disconnect_answer : Book → Result Disconnected LedgerFault
disconnect_answer k = disconnect_by k.blocks k.kept

-- ---- settle

abbrev pub settled : Book → ℕ → Book
settled k n = record { terms = k.terms; blocks = k.blocks; kept = min n k.kept }

-- ---- the readings

abbrev pub tip_of : Book → Tip
tip_of k = record { id = tip_id k.terms k.blocks; height = length k.blocks }

abbrev pub one_held : Lock → Coin → Balance → Balance
one_held l c b = cond (same_lock c.lock l) (record { coins = 1 + b.coins; value = c.value + b.value }) b

-- the coins of a lock
abbrev pub held_by : Lock → Coins → Balance
held_by l [] = record { coins = 0; value = 0 }
held_by l (p ∷ m) = one_held l p.1 (held_by l m)

-- a balance with a coin more, if it is the lock's
abbrev pub with_held : Lock → Coin → Balance → Balance
with_held l c b = cond (same_lock c.lock l) (record { coins = b.coins + 1; value = b.value + c.value }) b
