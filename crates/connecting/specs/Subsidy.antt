-- The subsidy: 5,000,000,000 halved, fractions dropped, once for each full interval in the height.
use Rattle.std.specs.Prelude.{ℕ, zero, suc, ◌/◌}

abbrev pub halved : ℕ → ℕ → ℕ
halved zero n = n
halved (suc k) n = halved k (n / 2)

abbrev pub subsidy_at : ℕ → ℕ → ℕ
subsidy_at interval height = halved (height / interval) 5000000000
