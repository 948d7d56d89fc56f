-- What a block is: a value within the limits, and the bytes that write it.
use Rattle.std.specs.Prelude.{◌≡◌, ℕ, ◌^◌, ◌<◌, ◌≤◌, List, [], ◌∷◌, ◌++◌, length}
use Rattle.compact.specs.Compact.{le, encode}
use Rattle.coins.specs.declared.coin.Lock.{Lock}
use Rattle.coins.specs.declared.outpoint.Outpoint.{Outpoint}

pub record InputValue : Type 0 where
  pub outpoint : Outpoint
  pub witness : List ℕ

pub record OutputValue : Type 0 where
  pub value : ℕ
  pub lock : Lock

pub record TransactionValue : Type 0 where
  pub id : List ℕ
  pub inputs : List InputValue
  pub outputs : List OutputValue

pub record BlockValue : Type 0 where
  pub id : List ℕ
  pub previous : List ℕ
  pub transactions : List TransactionValue

-- an input or an output
pub data Piece : Type 0 where
  spends : InputValue → Piece
  makes : OutputValue → Piece

-- the bytes of each, one after another
abbrev pub encode_all : {X : Type 0} → (X → List ℕ) → List X → List ℕ
encode_all enc [] = []
encode_all enc (x ∷ xs) = enc x ++ encode_all enc xs

-- a count, and the bytes of each
abbrev pub encode_list : {X : Type 0} → (X → List ℕ) → List X → List ℕ
encode_list enc xs = encode (length xs) ++ encode_all enc xs

abbrev pub encode_input : InputValue → List ℕ
encode_input x = x.outpoint.id ++ (le 4 x.outpoint.index ++ (encode (length x.witness) ++ x.witness))

abbrev pub encode_output : OutputValue → List ℕ
encode_output x = le 8 x.value ++ (x.lock.kind ∷ le 8 x.lock.argument)

abbrev pub encode_piece : Piece → List ℕ
encode_piece (spends x) = encode_input x
encode_piece (makes x) = encode_output x

abbrev pub encode_transaction : TransactionValue → List ℕ
encode_transaction t = t.id ++ (encode_list encode_input t.inputs ++ encode_list encode_output t.outputs)

abbrev pub encode_block : BlockValue → List ℕ
encode_block v = v.id ++ (v.previous ++ encode_list encode_transaction v.transactions)

-- at most 64, each of which is P
abbrev pub All : {X : Type 0} → (X → Type 0) → List X → Type 0
All P [] = Unit {0}
All P (x ∷ xs) = P x × All P xs

abbrev pub Few : {X : Type 0} → (X → Type 0) → List X → Type 0
Few P xs = (length xs ≤ 64) × All P xs

abbrev pub Id : List ℕ → Type 0
Id x = length x ≡ 32

abbrev pub InputWithin : InputValue → Type 0
InputWithin x = Id x.outpoint.id × (x.outpoint.index < 2 ^ 32) × (length x.witness ≤ 100)

abbrev pub OutputWithin : OutputValue → Type 0
OutputWithin x = (x.value < 2 ^ 64) × (x.lock.kind < 256) × (x.lock.argument < 2 ^ 64)

abbrev pub PieceWithin : Piece → Type 0
PieceWithin (spends x) = InputWithin x
PieceWithin (makes x) = OutputWithin x

abbrev pub TransactionWithin : TransactionValue → Type 0
TransactionWithin t = Id t.id × Few InputWithin t.inputs × Few OutputWithin t.outputs

abbrev pub BlockWithin : BlockValue → Type 0
BlockWithin v = Id v.id × Id v.previous × Few TransactionWithin v.transactions
