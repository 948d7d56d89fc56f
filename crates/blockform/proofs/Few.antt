-- A reader never has more than 64 to hand out. Assumes nothing.
use Rattle.std.proofs.Common.{◌≡◌, ℕ, zero, suc, ◌≤◌, length, sym, refl, ap, subst}
use Rattle.blockform.specs.declared.reader.Items.{Items}
use Rattle.blockform.specs.declared.reader.Transactions.{Transactions}
use Rattle.blockbytes.specs.Places.{list_at}
use Rattle.blockform.specs.Readers.{items_of, transactions_of, ItemsGood, TransactionsGood}

length_list : {X : Type 0} (n : ℕ) (value : ℕ → X) (end : ℕ → ℕ) (at : ℕ) → length (list_at n value end at) ≡ n
length_list zero value end at = refl
length_list (suc n) value end at = ap suc (length_list n value end (end at))

pub items_few : (r : Items) → ItemsGood r → length (items_of r) ≤ 64
unfolding items_of ItemsGood
items_few r g = subst (λ n. n ≤ 64) (sym (length_list r.left _ _ r.place)) g.0

pub transactions_few : (r : Transactions) → TransactionsGood r → length (transactions_of r) ≤ 64
unfolding transactions_of TransactionsGood
transactions_few r g = subst (λ n. n ≤ 64) (sym (length_list r.left _ _ r.place)) g.0
