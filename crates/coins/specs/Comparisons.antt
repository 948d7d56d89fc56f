-- The laws of the comparisons of outpoints, locks and coins.
use Rattle.std.specs.Prelude.{◌≡◌, Bool, true, false, refl}
use Rattle.std.proofs.Common.{sym}
use Rattle.std.specs.Cmp.{IsEquivalence, IsTotalOrder, nat_cmp_total, nat_eq_equiv, and_equiv, on_equiv, on_total, then_total}
use Rattle.std.specs.Cmp.Lexicographic.{nat_list_cmp_total}
use Rattle.coins.specs.declared.outpoint.Outpoint.{Outpoint}
use Rattle.coins.specs.declared.coin.Coin.{Coin}
use Rattle.coins.specs.declared.coin.Lock.{Lock}
use Rattle.coins.specs.Order.{order}
use Rattle.coins.specs.Same.{same_flag, same_lock, same_coin}

pub order_is_total : IsTotalOrder order
order_is_total = then_total (on_total (λ (x : Outpoint). x.id) nat_list_cmp_total) (on_total (λ (x : Outpoint). x.index) nat_cmp_total)

flag_itself : (a : Bool) → same_flag a a ≡ true
flag_itself true = refl
flag_itself false = refl

flag_turned : (a b : Bool) → same_flag a b ≡ same_flag b a
flag_turned true true = refl
flag_turned true false = refl
flag_turned false true = refl
flag_turned false false = refl

flag_alike : (a b c : Bool) → same_flag a b ≡ true → same_flag a c ≡ same_flag b c
flag_alike true true c e = refl
flag_alike true false true e = sym e
flag_alike true false false e = e
flag_alike false true true e = e
flag_alike false true false e = sym e
flag_alike false false c e = refl

flags_equiv : IsEquivalence same_flag
flags_equiv = record { refl = flag_itself; symm = flag_turned; congr = flag_alike }

pub locks_equiv : IsEquivalence same_lock
locks_equiv = and_equiv (on_equiv (λ (x : Lock). x.kind) nat_eq_equiv) (on_equiv (λ (x : Lock). x.argument) nat_eq_equiv)

pub coins_equiv : IsEquivalence same_coin
coins_equiv = and_equiv (on_equiv (λ (x : Coin). x.value) nat_eq_equiv) (and_equiv (on_equiv (λ (x : Coin). x.lock) locks_equiv) (and_equiv (on_equiv (λ (x : Coin). x.height) nat_eq_equiv) (on_equiv (λ (x : Coin). x.coinbase) flags_equiv)))
