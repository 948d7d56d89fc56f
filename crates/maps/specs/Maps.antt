-- A finite map as a list of pairs in the order of their keys, over any total order.
--     look, insert, remove     the value of a key; the map with a pair; the map without a key
--     next_of                  the pair with the least key above another, or of all
--     place                    how many keys are below a key
--     Sorted                   each key is below those after it
--     total                    the sum of a number of each value
use Rattle.std.specs.Prelude.{◌≡◌, ℕ, suc, ◌+◌, List, [], ◌∷◌, Some, None, Option}
use Rattle.std.specs.declared.cmp.Ordering.TheVariants.{Less, Equal, Greater}
use Rattle.std.specs.declared.cmp.Ordering.{Ordering}
use Rattle.std.specs.List.{slice_get}
use Rattle.std.specs.Ordering.{ordering_reverse}

-- a total order that tells any two keys apart
pub record Order (K : Type 0) : Type 0 where
  pub cmp : K → K → Ordering
  pub itself : (x : K) → cmp x x ≡ Equal
  pub equal : (x y : K) → cmp x y ≡ Equal → x ≡ y
  pub flip : (x y : K) → cmp x y ≡ ordering_reverse (cmp y x)
  pub trans : (x y z : K) → cmp x y ≡ Less → cmp y z ≡ Less → cmp x z ≡ Less

-- one of three, by a comparison
abbrev pub pick : {A : Type 0} → Ordering → A → A → A → A
pick Less a b c = a
pick Equal a b c = b
pick Greater a b c = c

module _ {K V : Type 0} (o : Order K) where
  abbrev pub look : K → List (K × V) → Option V
  look k [] = None
  look k (p ∷ m) = pick (o.cmp k p.0) None (Some p.1) (look k m)

  abbrev pub insert : K → V → List (K × V) → List (K × V)
  insert k v [] = (k, v) ∷ []
  insert k v (p ∷ m) = pick (o.cmp k p.0) ((k, v) ∷ (p ∷ m)) ((k, v) ∷ m) (p ∷ insert k v m)

  abbrev pub remove : K → List (K × V) → List (K × V)
  remove k [] = []
  remove k (p ∷ m) = pick (o.cmp k p.0) (p ∷ m) m (p ∷ remove k m)

  -- the first pair above a key
  abbrev pub after : K → List (K × V) → Option (K × V)
  after k [] = None
  after k (p ∷ m) = pick (o.cmp k p.0) (Some p) (after k m) (after k m)

  -- every key of the map is above k
  abbrev pub Above : K → List (K × V) → Type 0
  Above k [] = Unit {0}
  Above k (p ∷ m) = (o.cmp k p.0 ≡ Less) × Above k m

  abbrev pub Sorted : List (K × V) → Type 0
  Sorted [] = Unit {0}
  Sorted (p ∷ m) = Above p.0 m × Sorted m

abbrev pub total : {K V : Type 0} → (V → ℕ) → List (K × V) → ℕ
total f [] = 0
total f (p ∷ m) = f p.1 + total f m

-- 1 where there is a value
abbrev pub one_if : {A : Type 0} → Option A → ℕ
one_if None = 0
one_if (Some x) = 1

module _ {K V : Type 0} (o : Order K) where
  -- a value written at a key, or nothing
  abbrev pub write : K → Option V → List (K × V) → List (K × V)
  write k None m = remove o k m
  write k (Some v) m = insert o k v m

  -- how many keys are below k: the place of k among them
  abbrev pub place : K → List (K × V) → ℕ
  place k [] = 0
  place k (p ∷ m) = pick (o.cmp k p.0) 0 0 (suc (place k m))

-- the least pair above a key, or of all
abbrev pub next_of : {K V : Type 0} → Order K → Option K → List (K × V) → Option (K × V)
next_of o None m = slice_get m 0
next_of o (Some q) m = after o q m

abbrev pub Beyond : {K : Type 0} → Order K → Option K → K → Type 0
Beyond o None q = Unit {0}
Beyond o (Some p) q = o.cmp p q ≡ Less

-- the pair p of the map m has the least key above another, or of all
pub record Least {K V : Type 0} (o : Order K) (from : Option K) (m : List (K × V)) (p : K × V) : Type 0 where
  pub there : look o p.0 m ≡ Some p.1
  pub above : Beyond o from p.0
  pub least : (q : K) → Beyond o from q → o.cmp q p.0 ≡ Less → look o q m ≡ None
