use Rattle.std.proofs.Common.{length, arith}
use Rattle.coinsview.specs.Table.{coins_of, empty_cell}
use Rattle.coinsview.proofs.Puts.{put_exists}
use Rattle.coinsview.proofs.Tables.{put_map, put_ok}
use Rattle.coinsview.proofs.table.FlatTableCoinsView.put.Goals as goal

pub returns-in_default-clause-value : goal.returns-in_default-clause-value
returns-in_default-clause-value c = let s = c.args.self.now in put_exists (length s.cells.now) c.args.at (coins_of s) _ (c.in_default.ensures.found.2 empty_cell)

pub returns-clause-well : goal.returns-clause-well
returns-clause-well c =
    let h = c.copy_within.ensures in
    put_ok _ _ _ c.requires _ _ h.len _ c.in-Err.ensures.found (omega (arith, c.requires.within)) h.by_index.0 h.by_index.1

pub returns-clause-map : goal.returns-clause-map
returns-clause-map c =
    let h = c.copy_within.ensures in
    put_map _ _ _ c.requires _ _ h.len _ c.in-Err.ensures.found (omega (arith, c.requires.within)) h.by_index.0 h.by_index.1
