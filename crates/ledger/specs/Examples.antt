-- Examples at the edges of the rules.
use Rattle.std.specs.Prelude.{◌≡◌, ℕ, ◌<◌, [], ◌∷◌, Err}
use Rattle.compact.specs.declared.SizeFault.TheVariants.{LongForm}
use Rattle.compact.specs.Compact.{encode, read_size}
use Rattle.coins.specs.declared.coin.Coin.{Coin}
use Rattle.coins.specs.declared.outpoint.Outpoint.{Outpoint}
use Rattle.coinsview.specs.Meaning.{Coins, coin_at, put_answer}
use Rattle.entries.specs.Entries.{Entries}
use Rattle.cache.specs.Rules.{over_below, take_entries, put_entries, spilled_below}
use Rattle.connecting.specs.Subsidy.{subsidy_at}

-- ---- a cache with the entries es, over a base with the coins m and the capacity n

abbrev pub entries_taken : Outpoint → Coins → Entries → Entries
entries_taken at m es = take_entries (coin_at at (over_below es m)) at es

abbrev pub entries_put : ℕ → Outpoint → Coin → Coins → Entries → Entries
entries_put n at c m es = put_entries (put_answer n at (over_below es m)) at c es

pub record EdgeExamples : Type 0 where
  -- 252 is FC, 253 is FD FD 00, and FD FC 00 is refused as not the shortest
  pub size_252 : encode 252 ≡ 252 ∷ []
  pub size_253 : encode 253 ≡ 253 ∷ 253 ∷ 0 ∷ []
  pub long_form : read_size (253 ∷ 252 ∷ 0 ∷ []) ≡ Err LongForm
  -- the subsidy around its halvings, with an interval of 210,000
  pub subsidy_before : subsidy_at 210000 209999 ≡ 5000000000
  pub subsidy_halved : subsidy_at 210000 210000 ≡ 2500000000
  pub subsidy_last : subsidy_at 210000 6929999 ≡ 1
  pub subsidy_none : subsidy_at 210000 6930000 ≡ 0
  -- the base has a coin c; the cache takes it, puts another one d there, takes that, and flushes: the base has none
  pub spent_twice : (n : ℕ) (at : Outpoint) (c d : Coin) → 0 < n → spilled_below (entries_taken at ((at, c) ∷ []) (entries_put n at d ((at, c) ∷ []) (entries_taken at ((at, c) ∷ []) []))) ((at, c) ∷ []) ≡ []
