-- What a reader still has to hand out.
use Rattle.std.specs.Prelude.{◌≡◌, ℕ, ◌+◌, ◌≤◌, true, List, [], ◌∷◌, map, length, is_ok, Option, IfSome, MatchOption}
use Rattle.std.specs.Iterator.{YieldsFirstBy}
use Rattle.blockbytes.specs.Form.{times, transaction, block}
use Rattle.blockform.specs.Kinds.{item, item_at, item_end}
use Rattle.blockform.specs.declared.reader.Item.{Item}
use Rattle.blockform.specs.declared.reader.Item.TheVariants.{Input, Output}
use Rattle.blockform.specs.declared.reader.Items.{Items}
use Rattle.blockform.specs.declared.reader.Transaction.{Transaction}
use Rattle.blockform.specs.declared.reader.Transactions.{Transactions}
use Rattle.blockform.specs.declared.reader.Block.{Block}
use Rattle.blockbytes.specs.Value.{TransactionValue, BlockValue, Piece, spends, makes, encode_all, encode_input, encode_piece, encode_transaction, PieceWithin}
use Rattle.blockbytes.specs.Places.{list_at, transaction_at, transaction_end, block_at}

abbrev pub piece_of : Item → Piece
piece_of (Input offset id index witness) = spends (record { outpoint = record { id = id.now; index = index }; witness = witness.now })
piece_of (Output offset value lock) = makes (record { value = value; lock = lock })

abbrev pub offset_of : Item → ℕ
offset_of (Input offset id index witness) = offset
offset_of (Output offset value lock) = offset

unfoldable pub items_of : Items → List Piece
items_of r = list_at r.left (item_at r.kind r.block.now) (item_end r.kind r.block.now) r.place

unfoldable pub transactions_of : Transactions → List TransactionValue
transactions_of r = list_at r.left (transaction_at r.block.now) (transaction_end r.block.now) r.place

unfoldable pub block_of : Block → BlockValue
block_of r = block_at r.bytes.now

-- what is left of a reader is well formed
unfoldable pub ItemsGood : Items → Type 0
ItemsGood r = (r.left ≤ 64) × (is_ok (times r.left (item r.kind r.block.now) r.place) ≡ true)

unfoldable pub TransactionsGood : Transactions → Type 0
TransactionsGood r = (r.left ≤ 64) × (is_ok (times r.left (transaction r.block.now) r.place) ≡ true)

unfoldable pub BlockGood : Block → Type 0
BlockGood r = is_ok (block r.bytes.now) ≡ true

-- each reader carries that it is
pub items_good : (r : Items) → ItemsGood r
unfolding ItemsGood
items_good r = (r.few, r.good)

pub transactions_good : (r : Transactions) → TransactionsGood r
unfolding TransactionsGood
transactions_good r = (r.few, r.good)

pub block_good : (r : Block) → BlockGood r
unfolding BlockGood
block_good r = r.good

-- the offset in the block of what comes next
unfoldable pub next_item : Items → ℕ
next_item r = r.place

unfoldable pub next_transaction : Transactions → ℕ
next_transaction r = r.place

-- t is the transaction v: its parts, and where its inputs and its outputs begin
pub record Hands (t : Transaction) (v : TransactionValue) : Type 0 where
  pub id : t.id.now ≡ v.id
  pub inputs : items_of t.inputs ≡ map spends v.inputs
  pub first_input : next_item t.inputs ≡ t.offset + 33
  pub good_inputs : ItemsGood t.inputs
  pub outputs : items_of t.outputs ≡ map makes v.outputs
  pub first_output : next_item t.outputs ≡ t.offset + 33 + length (encode_all encode_input v.inputs) + 1
  pub good_outputs : ItemsGood t.outputs

-- a call hands out the first of what is left, with its place and the place of the next; or nothing was left
abbrev pub HandsItem : Items → Option Item → Items → Type 0
HandsItem s r t = YieldsFirstBy piece_of items_of s r t × IfSome r (λ i. (offset_of i ≡ next_item s) × (next_item t ≡ next_item s + length (encode_piece (piece_of i))) × PieceWithin (piece_of i))

abbrev pub HandsTransaction : Transactions → Option Transaction → Transactions → Type 0
HandsTransaction s r t = MatchOption r ((transactions_of s ≡ []) × (transactions_of t ≡ [])) (λ x. (v : TransactionValue) × Hands x v × (transactions_of s ≡ v ∷ transactions_of t) × (next_transaction t ≡ next_transaction s + length (encode_transaction v)) × (x.offset ≡ next_transaction s))
