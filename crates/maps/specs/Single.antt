-- That a map is in order has one proof at most.
use Rattle.std.specs.Prelude.{List, [], ◌∷◌}
use Rattle.std.proofs.Props.{props}
use Rattle.maps.specs.Maps.{Order, Above, Sorted}

module _ {K V : Type 0} (o : Order K) where
  above_single : (k : K) (m : List (K × V)) → IsProp (Above o k m)
  above_single k [] = Prim.hlevel props
  above_single k (p ∷ m) = Prim.hlevel (props, above_single k m)

  pub sorted_single : (m : List (K × V)) → IsProp (Sorted o m)
  sorted_single [] = Prim.hlevel props
  sorted_single (p ∷ m) = Prim.hlevel (props, above_single p.0 m, sorted_single m)
