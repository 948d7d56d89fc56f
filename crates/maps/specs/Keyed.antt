-- The order of outpoints as the maps take it.
use Rattle.maps.specs.Maps.{Order}
use Rattle.coins.specs.declared.outpoint.Outpoint.{Outpoint}
use Rattle.coins.specs.Order.{order}
use Rattle.coins.proofs.Ordered.{order_itself, order_equal, order_flip, order_trans}

abbrev pub outpoints : Order Outpoint
outpoints = record { cmp = order; itself = order_itself; equal = order_equal; flip = order_flip; trans = order_trans }
