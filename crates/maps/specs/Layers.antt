-- Marked entries for some keys, over a map below.
--     laid      the map that the entries say over the one below
--     spilled   the map below once the entries have been written into it
use Rattle.std.specs.Prelude.{◌≡◌, ℕ, ◌<◌, Bool, true, false, cond, not, ◌&&◌, List, [], ◌∷◌, length, Some, None, Option, ◌≢◌}
use Rattle.maps.specs.Maps.{Order, look, insert, remove, write}

-- what an entry has: a value or none, and two flags
pub record Marks (V W : Type 0) : Type 0 where
  pub value : W → Option V
  pub dirty : W → Bool
  pub fresh : W → Bool

-- an entry first, else what is below
abbrev pub said : {V W : Type 0} → Marks V W → Option W → Option V → Option V
said k None x = x
said k (Some w) x = k.value w

-- what the flags of an entry promise of the value below
abbrev pub Agrees : {V W : Type 0} → Marks V W → W → Option V → Type 0
Agrees k w x = (k.dirty w ≡ false → x ≡ k.value w) × (k.fresh w ≡ true → x ≡ None) × (k.fresh w ≡ false → x ≢ None) × (k.fresh w ≡ true → k.value w ≢ None)

module _ {K V W : Type 0} (o : Order K) (k : Marks V W) where
  abbrev pub laid : List (K × W) → List (K × V) → List (K × V)
  laid [] m = m
  laid (e ∷ es) m = write o e.0 (k.value e.1) (laid es m)

  abbrev pub Flags : List (K × W) → List (K × V) → Type 0
  Flags es m = (q : K) (w : W) → look o q es ≡ Some w → Agrees k w (look o q m)

  -- every key of a dirty entry that is not fresh is taken
  abbrev pub takes : List (K × W) → List (K × V) → List (K × V)
  takes [] m = m
  takes (e ∷ es) m = takes es (cond (k.dirty e.1 && not (k.fresh e.1)) (remove o e.0 m) m)

  abbrev pub put_one : Bool → K → Option V → List (K × V) → List (K × V)
  put_one false q x m = m
  put_one true q None m = m
  put_one true q (Some v) m = insert o q v m

  -- every dirty value is put
  abbrev pub puts : List (K × W) → List (K × V) → List (K × V)
  puts [] m = m
  puts (e ∷ es) m = puts es (put_one (k.dirty e.1) e.0 (k.value e.1) m)

  abbrev pub spilled : List (K × W) → List (K × V) → List (K × V)
  spilled es m = puts es (takes es m)

  -- no put of them is refused by a map of n pairs at most
  abbrev pub One : ℕ → Bool → K → Option V → List (K × V) → Type 0
  One n false q x m = Unit {0}
  One n true q None m = Unit {0}
  One n true q (Some v) m = (look o q m ≡ None) × (length m < n)

  abbrev pub Fits : ℕ → List (K × W) → List (K × V) → Type 0
  Fits n [] m = Unit {0}
  Fits n (e ∷ es) m = One n (k.dirty e.1) e.0 (k.value e.1) m × Fits n es (put_one (k.dirty e.1) e.0 (k.value e.1) m)
