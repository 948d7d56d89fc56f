-- Locks and coins that are the same in each part are equal. Assumes nothing.
use Rattle.std.proofs.Common.{◌≡◌, ◌≤◌, Bool, true, false, ◌==◌, sym, refl, subst}
use mathlib.Core.Path.{to_path_p}
use native.Mathlib.Bridge.{le_prop}
use Rattle.std.specs.Cmp.{unsigned_Decides, first_so, second_so}
use Rattle.std.specs.Cmp.Derive.{both_true}
use Rattle.coins.specs.declared.coin.Coin.{Coin}
use Rattle.coins.specs.declared.coin.Lock.{Lock}
use Rattle.coins.specs.Same.{same_flag, same_lock, same_coin, SameIsEqual}

flag_equal : (a b : Bool) → same_flag a b ≡ true → a ≡ b
flag_equal true b h = sym h
flag_equal false true h = h
flag_equal false false h = refl

flag_itself : (a : Bool) → same_flag a a ≡ true
flag_itself true = refl
flag_itself false = refl

lock_itself : (x : Lock) → same_lock x x ≡ true
lock_itself x = both_true ((unsigned_Decides x.kind x.kind).1 refl) ((unsigned_Decides x.argument x.argument).1 refl)

lock_equal : (x y : Lock) → same_lock x y ≡ true → x ≡ y
lock_equal x y h =
    let k = (unsigned_Decides x.kind y.kind).0 (first_so _ _ h) in
    let a = (unsigned_Decides x.argument y.argument).0 (second_so (x.kind == y.kind) _ h) in
    λ i. record { kind = k i; argument = a i }

pub coin_itself : (x : Coin) → same_coin x x ≡ true
coin_itself x = both_true ((unsigned_Decides x.value x.value).1 refl) (both_true (lock_itself x.lock) (both_true ((unsigned_Decides x.height x.height).1 refl) (flag_itself x.coinbase)))

-- coins with equal parts
pub coin_parts : (x y : Coin) → x.value ≡ y.value → x.lock ≡ y.lock → x.height ≡ y.height → x.coinbase ≡ y.coinbase → x ≡ y
coin_parts x y v l h c =
    let m = to_path_p (λ i. v i ≤ 2100000000000000) (le_prop _ y.money) in
    λ i. record { value = v i; lock = l i; height = h i; coinbase = c i; money = m i }

coin_equal : (x y : Coin) → same_coin x y ≡ true → x ≡ y
coin_equal x y e =
    let v = first_so (x.value == y.value) _ e in
    let p = second_so (x.value == y.value) _ e in
    let q = second_so (same_lock x.lock y.lock) _ p in
    coin_parts x y ((unsigned_Decides _ _).0 v) (lock_equal _ _ (first_so _ _ p)) ((unsigned_Decides _ _).0 (first_so _ _ q)) (flag_equal _ _ (second_so (x.height == y.height) _ q))

pub same_is_equal : SameIsEqual
same_is_equal = (
  λ x y. (lock_equal x y, λ e. subst (λ z. same_lock x z ≡ true) e (lock_itself x)),
  λ x y. (coin_equal x y, λ e. subst (λ z. same_coin x z ≡ true) e (coin_itself x)),
)
