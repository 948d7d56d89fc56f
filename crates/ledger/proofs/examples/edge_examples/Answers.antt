use Rattle.std.proofs.Common.{◌≡◌, ℕ, ◌<◌, [], ◌∷◌, refl, lt-ltb}
use Rattle.compact.specs.Compact.{read_size}
use Rattle.coins.specs.declared.coin.Coin.{Coin}
use Rattle.coins.specs.declared.outpoint.Outpoint.{Outpoint}
use Rattle.maps.specs.Keyed.{outpoints}
use Rattle.cache.specs.Rules.{spilled_below}
use Rattle.ledger.specs.Examples.{entries_taken, entries_put}
use Rattle.ledger.proofs.examples.edge_examples.Goals as goal

spent_twice : (n : ℕ) (at : Outpoint) (c d : Coin) → 0 < n → spilled_below (entries_taken at ((at, c) ∷ []) (entries_put n at d ((at, c) ∷ []) (entries_taken at ((at, c) ∷ []) []))) ((at, c) ∷ []) ≡ []
spent_twice n at c d h = let e = outpoints.itself at in let r = lt-ltb 0 n h in simp (e, r)

pub returns : goal.returns
unfolding read_size
returns c = record {
  size_252 = refl;
  size_253 = refl;
  long_form = refl;
  subsidy_before = refl;
  subsidy_halved = refl;
  subsidy_last = refl;
  subsidy_none = refl;
  spent_twice = spent_twice;
}
