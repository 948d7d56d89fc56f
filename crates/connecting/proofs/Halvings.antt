-- Halving k times is dividing by 2 ^ k. Assumes nothing.
use Rattle.std.proofs.Common.{◌≡◌, ℕ, zero, suc, ◌/◌, ◌^◌, ◌<◌, ◌≤◌, Option, Some, None, SomeIff, sym, ap, ◌∙◌, arith, lit<, pow_mono}
use Rattle.std.proofs.Math.Nat.{div-zero}
use Rattle.std.specs.Option.{unwrap_or}
use native.Mathlib.Nat.{div-div-eq-div-mul, div-eq_of_lt, pow-succ'}
use Rattle.connecting.specs.Subsidy.{halved}

pub halved_is : (k n : ℕ) → halved k n ≡ n / 2 ^ k
halved_is zero n = omega arith
halved_is (suc k) n = halved_is k (n / 2) ∙ div-div-eq-div-mul n 2 (2 ^ k) ∙ ap (λ d. n / d) (sym (pow-succ' 2 k))

-- from 64 halvings on nothing is left
halved_out : (k n : ℕ) → n < 2 ^ 64 → 64 ≤ k → halved k n ≡ 0
halved_out k n l h = let m : 2 ^ 64 ≤ 2 ^ k = pow_mono h in halved_is k n ∙ div-eq_of_lt (omega (arith, m))

-- a height has no full interval of no length
pub halvings_is : (interval height : ℕ) (r : Option ℕ) → SomeIff r (0 < interval) (height / interval) → unwrap_or r 0 ≡ height / interval
halvings_is interval height (Some x) h = h.1
halvings_is zero height None h = sym (div-zero height)
halvings_is (suc i) height None h = absurd (h (omega arith))

pub shifted_is : (k : ℕ) (r : Option ℕ) → SomeIff r (k < 64) (5000000000 / 2 ^ k) → unwrap_or r 0 ≡ halved k 5000000000
shifted_is k (Some x) h = h.1 ∙ sym (halved_is k 5000000000)
shifted_is k None h = sym (halved_out k 5000000000 (lit< tt) (omega (arith, h)))
