-- The turns of the walk over the coins. Assumes nothing.
use Rattle.std.proofs.Common.{◌≡◌, ℕ, zero, suc, ◌+◌, ◌*◌, ◌<◌, ◌≤◌, Bool, true, false, cond, [], ◌∷◌, length, get_or, drop, Some, None, Option, sym, refl, ap, ◌∙◌, subst, arith}
use Rattle.std.specs.List.{slice_get}
use Rattle.std.proofs.lemmas.List.{at_drop_more, at_drop_all}
use Rattle.coins.specs.declared.coin.Coin.{Coin}
use Rattle.coins.specs.declared.coin.Lock.{Lock}
use Rattle.coins.specs.declared.outpoint.Outpoint.{Outpoint}
use Rattle.coins.specs.Same.{same_lock}
use Rattle.maps.specs.Maps.{Sorted, place}
use Rattle.maps.specs.Keyed.{outpoints}
use Rattle.maps.proofs.Laws.{place_at}
use Rattle.maps.proofs.Merged.{next_at}
use Rattle.std.specs.Ordering.{MatchOrdering}
use Rattle.coinsview.specs.Meaning.{Coins, next_in}
use Rattle.ledger.specs.declared.Balance.{Balance}
use Rattle.ledger.specs.Book.{one_held, held_by, with_held}

abbrev pub summed : Balance → Balance → Balance
summed a b = record { coins = a.coins + b.coins; value = a.value + b.value }

with_one : (l : Lock) (c : Coin) (a b : Balance) (t : Bool) → summed a (cond t (record { coins = 1 + b.coins; value = c.value + b.value }) b) ≡ summed (cond t (record { coins = a.coins + 1; value = a.value + c.value }) a) b
with_one l c a b true =
    let p : a.coins + (1 + b.coins) ≡ (a.coins + 1) + b.coins = omega arith in
    let q : a.value + (c.value + b.value) ≡ (a.value + c.value) + b.value = omega arith in
    λ i. record { coins = p i; value = q i }
with_one l c a b false = refl

nth_there : (m : Coins) (i : ℕ) (p : Outpoint × Coin) → slice_get m i ≡ Some p → (i < length m) × (get_or m i p ≡ p)
nth_there [] i p h = absurd (let z : ◌≡◌ {A = ℕ} 0 1 = cc in omega arith)
nth_there (q ∷ m) zero p h = (omega arith, let z : q ≡ p = cc in z)
nth_there (q ∷ m) (suc i) p h = let r = nth_there m i p h in (omega (arith, r.0), r.1)

pub turn : (l : Lock) (m : Coins) (i : ℕ) (p : Outpoint × Coin) (a : Balance) → slice_get m i ≡ Some p → held_by l m ≡ summed a (held_by l (drop i m)) → held_by l m ≡ summed (with_held l p.1 a) (held_by l (drop (i + 1) m))
turn l m i p a h inv =
    let t = nth_there m i p h in
    inv ∙ ap (summed a) (at_drop_more (held_by l) m i p t.0 ∙ ap (λ q. one_held l q.1 (held_by l (drop (i + 1) m))) t.1) ∙ with_one l p.1 a (held_by l (drop (i + 1) m)) (same_lock p.1.lock l)

pub ended : (l : Lock) (m : Coins) (i : ℕ) (a : Balance) → length m ≤ i → held_by l m ≡ summed a (held_by l (drop i m)) → a ≡ held_by l m
ended l m i a h inv =
    let z = at_drop_all (held_by l) m i h in
    let p : a.coins + 0 ≡ a.coins = omega arith in
    let q : a.value + 0 ≡ a.value = omega arith in
    sym (inv ∙ ap (summed a) z ∙ (λ i. record { coins = p i; value = q i }))

pub within : (m : Coins) (i : ℕ) (p : Outpoint × Coin) → slice_get m i ≡ Some p → i < length m
within m i p h = (nth_there m i p h).0

-- the place of the first coin above an outpoint, or of all
abbrev pub above : Option Outpoint → Coins → ℕ
above None m = 0
above (Some k) m = place outpoints k m + 1

pub above_found : (m : Coins) (i : ℕ) (p : Outpoint × Coin) → Sorted outpoints m → slice_get m i ≡ Some p → above (Some p.0) m ≡ i + 1
above_found m i p s h =
    let t = nth_there m i p h in
    let same = ap (λ q. outpoints.cmp p.0 q.0) t.1 ∙ outpoints.itself p.0 in
    let here = subst (λ r. MatchOrdering r (place outpoints p.0 m ≤ i) (place outpoints p.0 m ≡ i) (i < place outpoints p.0 m)) same (place_at outpoints p.0 m i p s t.0) in
    ap (λ n. n + 1) here

-- what the view answers above `last` is the coin at that place
pub found_above : (m n : Coins) (last from : Option Outpoint) (r : Option (Outpoint × Coin)) → r ≡ next_in from n → from ≡ last → n ≡ m → next_in last m ≡ slice_get m (above last m) → slice_get m (above last m) ≡ r
found_above m n last from r told same kept here = sym (told ∙ ap (λ x. next_in x n) same ∙ ap (next_in last) kept ∙ here)

pub none_past : (m : Coins) (i : ℕ) → slice_get m i ≡ None → length m ≤ i
none_past [] i h = omega arith
none_past (q ∷ m) zero h = absurd (let z : ◌≡◌ {A = ℕ} 0 1 = cc in omega arith)
none_past (q ∷ m) (suc i) h = let r = none_past m i h in omega arith

pub held_bound : (l : Lock) (c : Coin) (a : Balance) (i : ℕ) → a.coins ≤ i → a.value ≤ 2100000000000000 * i → ((with_held l c a).coins ≤ i + 1) × ((with_held l c a).value ≤ 2100000000000000 * (i + 1))
held_bound l c a i h k = go (same_lock c.lock l)
  where
    go : (t : Bool) → ((cond t (record { coins = a.coins + 1; value = a.value + c.value }) a).coins ≤ i + 1) × ((cond t (record { coins = a.coins + 1; value = a.value + c.value }) a).value ≤ 2100000000000000 * (i + 1))
    go true = (omega arith, omega (arith, c.money))
    go false = (omega arith, omega arith)

-- after a pair that was found at i, the next one is at i + 1
pub next_there : (m : Coins) (i : ℕ) (p : Outpoint × Coin) → Sorted outpoints m → slice_get m i ≡ Some p → next_in (Some p.0) m ≡ slice_get m (i + 1)
next_there m i p s h =
    let t = nth_there m i p h in
    ap (λ q. next_in (Some q.0) m) (sym t.1) ∙ next_at outpoints m i p s t.0
