-- A flat table: as many of its first cells as are used are its map, and its bottom map.
use Rattle.std.specs.Prelude.{ℕ, ◌≤◌, false, length, take, replicate}
use Rattle.std.proofs.Common.{lit≤}
use Rattle.coins.specs.declared.coin.Coin.{Coin}
use Rattle.coins.specs.declared.outpoint.Outpoint.{Outpoint}
use Rattle.maps.specs.Maps.{Sorted}
use Rattle.maps.specs.Keyed.{outpoints}
use Rattle.maps.specs.Single.{sorted_single}
use Rattle.std.proofs.Props.{props}
use Rattle.coinsview.specs.Kept.{take_few}
use Rattle.coinsview.specs.Meaning.{Coins}
use Rattle.coinsview.specs.declared.table.FlatTable.{FlatTable}
use Rattle.coinsview.specs.declared.view.CoinsView.{Ghosts}

-- what an empty cell holds
abbrev pub empty_cell : Outpoint × Coin
empty_cell = (record { id = replicate 32 0; index = 0 }, record { value = 0; lock = record { kind = 0; argument = 0 }; height = 0; coinbase = false; money = lit≤ tt })

abbrev pub empty_cells : ℕ → Coins
empty_cells n = replicate n empty_cell

abbrev pub used_cells : ℕ → Coins → Coins
used_cells used cells = take used cells

abbrev pub cells_of : FlatTable → Coins
cells_of t = t.cells.now

abbrev pub coins_of : FlatTable → Coins
coins_of t = used_cells t.used (cells_of t)

pub record TableOk (used : ℕ) (cells : Coins) : Type 0 where
  pub within : used ≤ length cells
  pub small : length cells ≤ 4096
  pub sorted : Sorted outpoints (used_cells used cells)

-- a table's being in order has one proof at most, so that a ghost field can hold it
pub table_single : (used : ℕ) (cells : Coins) → IsProp (TableOk used cells)
table_single used cells = Prim.hlevel (props, sorted_single outpoints (used_cells used cells))

abbrev pub table_view : Ghosts FlatTable
table_view = record {
  ok = λ t. TableOk t.used (cells_of t);
  most = λ t. length (cells_of t);
  coins = coins_of;
  bottom = coins_of;
  sorted = λ t h. h.sorted;
  few = λ t h. take_few t.used (cells_of t) h.within;
  small = λ t h. h.small;
}
