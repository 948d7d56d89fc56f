-- The order of outpoints is total, and tells any two apart. Assumes nothing.
use Rattle.std.proofs.Common.{◌≡◌, List, ℕ, Less, Equal, subst, Decides, arith}
use Rattle.std.specs.Cmp.{Equal-is, tied_itself}
use Rattle.std.specs.Cmp.Lexicographic.{slice_cmp, nat_list_cmp_total}
use Rattle.std.specs.Ordering.{ordering_reverse, is_eq, nat_cmp}
use Rattle.std.proofs.lemmas.Map.Lookups.{exact_bytes, exact_unsigned}
use Rattle.coins.specs.declared.outpoint.Outpoint.{Outpoint}
use Rattle.coins.specs.Order.{order}
use Rattle.coins.specs.Comparisons.{order_is_total}

pub lex_itself : (xs : List ℕ) → slice_cmp nat_cmp xs xs ≡ Equal
lex_itself = tied_itself nat_list_cmp_total

pub lex_equal : (xs ys : List ℕ) → slice_cmp nat_cmp xs ys ≡ Equal → xs ≡ ys
lex_equal = exact_bytes

pub order_itself : (x : Outpoint) → order x x ≡ Equal
order_itself = tied_itself order_is_total

pub order_equal : (x y : Outpoint) → order x y ≡ Equal → x ≡ y
order_equal x y h =
    let a = lex_equal x.id y.id in
    let b = exact_unsigned x.index y.index in
    let p : x.id ≡ y.id = grind arith in
    let q : x.index ≡ y.index = grind arith in
    λ i. record { id = p i; index = q i }

pub order_decides : (x y : Outpoint) → Decides (is_eq (order x y)) (x ≡ y)
order_decides x y = (λ h. order_equal x y ((Equal-is (order x y)).0 h), λ e. (Equal-is (order x y)).1 (subst (λ z. order x z ≡ Equal) e (order_itself x)))

pub order_flip : (x y : Outpoint) → order x y ≡ ordering_reverse (order y x)
order_flip = order_is_total.antisymm

pub order_trans : (x y z : Outpoint) → order x y ≡ Less → order y z ≡ Less → order x z ≡ Less
order_trans = order_is_total.trans
