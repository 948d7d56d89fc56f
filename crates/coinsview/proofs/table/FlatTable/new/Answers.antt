use Rattle.std.proofs.Common.{◌≡◌, ◌≤◌, false, min, length, replicate, take, refl, ap, ◌∙◌, arith, rules}
use native.Mathlib.Nat.{sub-zero}
use Rattle.std.proofs.lemmas.List.{take-replicate}
use Rattle.coins.proofs.Equals.{coin_parts}
use Rattle.coins.specs.declared.coin.Coin.{Coin}
use Rattle.coinsview.specs.Table.{empty_cell, empty_cells}
use Rattle.coinsview.proofs.table.FlatTable.new.Goals as goal

-- an empty coin, whatever shows that its value is small
same : (p : 0 ≤ 2100000000000000) → let c : Coin = record { value = 0; lock = record { kind = 0; argument = 0 }; height = 0; coinbase = false; money = p } in c ≡ empty_cell.1
same p = coin_parts _ _ refl refl refl refl

pub returns-clause-emptied : goal.returns-clause-emptied
returns-clause-emptied c =
    let n = length c.args.cells.now in
    let most : c.min-most.result ≡ min n 4096 = omega (arith, c.min-most.ensures) in
    let within : min n 4096 ≤ n = omega arith in
    let wiped : c.fill.new.self ≡ empty_cells n = c.fill.ensures.after (λ y h. search rules) ∙ ap (λ c. replicate n (empty_cell.0, c)) (same _) in
    rw sub-zero (ap (take c.min-most.result) wiped ∙ ap (λ m. take m (empty_cells n)) most ∙ take-replicate (min n 4096) n empty_cell within)
