use Rattle.std.proofs.Common.{sym}
use Rattle.maps.specs.Keyed.{outpoints}
use Rattle.maps.proofs.Laws.{remove_absent}
use Rattle.coinsview.proofs.Tables.{coin_there, take_map, take_ok}
use Rattle.coinsview.proofs.table.FlatTableCoinsView.take.Goals as goal

pub returns-in_default-clause-map : goal.returns-in_default-clause-map
returns-in_default-clause-map c = sym (remove_absent outpoints c.args.at.now _ c.in_default.ensures.found.2)

pub returns-clause-well : goal.returns-clause-well
returns-clause-well c =
    let h = c.copy_within.ensures in
    take_ok _ _ _ c.requires _ _ h.len c.in-Ok.ensures.found h.by_index.0 h.by_index.1

pub returns-clause-map : goal.returns-clause-map
returns-clause-map c =
    let h = c.copy_within.ensures in
    take_map _ _ _ c.requires _ _ h.len c.in-Ok.ensures.found h.by_index.0 h.by_index.1

pub returns-clause-value : goal.returns-clause-value
returns-clause-value c = sym (coin_there _ _ _ c.requires _ c.in-Ok.ensures.found _)
