-- Where a search for a key ends: its place, as `Ok` where the map has it.
use Rattle.std.specs.Prelude.{◌≡◌, ℕ, ◌<◌, ◌≤◌, List, length, Some, None, Ok, Err, Result, slice_index_or}
use Rattle.maps.specs.Maps.{Order, look, place}

abbrev pub Found : {K V : Type 0} → Order K → K → List (K × V) → Result ℕ ℕ → Type 0
Found o k m (Ok i) = (i ≡ place o k m) × (i < length m) × ((d : _) → look o k m ≡ Some (slice_index_or m i d).1)
Found o k m (Err i) = (i ≡ place o k m) × (i ≤ length m) × (look o k m ≡ None)
