-- The tests of the rules, as the code makes them. Assumes nothing.
use Rattle.std.proofs.Common.{◌≡◌, ℕ, Bool, true, false, List, [], ◌∷◌, map, length, Decides, Ordering, Less, Equal, Greater, sym, refl, ap, ◌∙◌, arith}
use Rattle.std.specs.Ordering.{nat_cmp}
use Rattle.std.specs.Cmp.Lexicographic.{slice_cmp}
use Rattle.coins.specs.declared.outpoint.Outpoint.{Outpoint}
use Rattle.coins.specs.Order.{order, null_outpoint}
use Rattle.coins.proofs.Ordered.{order_itself, order_equal, lex_itself, lex_equal}
use Rattle.std.proofs.lemmas.List.{length-map}
use Rattle.blockform.specs.declared.reader.Transaction.{Transaction}
use Rattle.blockform.specs.Readers.{items_of, Hands}
use Rattle.blockform.specs.Value.{InputValue, OutputValue, TransactionValue, Piece, spends, makes}
use Rattle.connecting.specs.Parts.{inputs_in, outputs_in, null_piece}
use Rattle.connecting.specs.Rules.{equal, is_null, is_coinbase, same_id}

-- a flag that says whether P holds, and an order that is equal exactly where P holds
by_order : {P : Type 0} (r : Ordering) (b : Bool) → Decides b P → (r ≡ Equal → P) → (P → r ≡ Equal) → b ≡ equal r
by_order Less true d f g = absurd (let z = g (d.0 refl) in let y : ◌≡◌ {A = ℕ} 0 1 = cc in omega arith)
by_order Less false d f g = refl
by_order Equal true d f g = refl
by_order Equal false d f g = d.1 (f refl)
by_order Greater true d f g = absurd (let z = g (d.0 refl) in let y : ◌≡◌ {A = ℕ} 0 1 = cc in omega arith)
by_order Greater false d f g = refl

pub null_is : (k : Outpoint) (b : Bool) → Decides b (k ≡ null_outpoint) → b ≡ is_null k
null_is k b d = by_order (order k null_outpoint) b d (order_equal k null_outpoint) (λ e. ap (λ x. order x null_outpoint) e ∙ order_itself null_outpoint)

pub id_is : (x y : List ℕ) (b : Bool) → Decides b (x ≡ y) → b ≡ same_id x y
id_is x y b d = by_order (slice_cmp nat_cmp x y) b d (lex_equal x y) (λ e. ap (λ z. slice_cmp nat_cmp z y) e ∙ lex_itself y)

-- a reader of inputs has just these, and one of outputs just those
pub inputs_all : (xs : List InputValue) → inputs_in (map spends xs) ≡ xs
inputs_all [] = refl
inputs_all (x ∷ xs) = ap (λ t. x ∷ t) (inputs_all xs)

pub outputs_all : (ys : List OutputValue) → outputs_in (map makes ys) ≡ ys
outputs_all [] = refl
outputs_all (y ∷ ys) = ap (λ t. y ∷ t) (outputs_all ys)

-- the one piece of a transaction
pub one_piece : (ps qs : List Piece) (p : Piece) → ps ≡ p ∷ qs → length ps ≡ 1 → null_piece p ≡ is_coinbase (inputs_in ps)
one_piece ps [] (spends x) e l = ap (λ x. is_coinbase (inputs_in x)) (sym e)
one_piece ps [] (makes y) e l = ap (λ x. is_coinbase (inputs_in x)) (sym e)
one_piece ps (q ∷ qs) p e l = absurd (omega (arith, ap length e))

-- a transaction that was handed out, by what its readers still have
pub record Read (t : Transaction) (v : TransactionValue) : Type 0 where
  pub inputs : inputs_in (items_of t.inputs) ≡ v.inputs
  pub outputs : outputs_in (items_of t.outputs) ≡ v.outputs
  pub input_count : length (items_of t.inputs) ≡ length v.inputs
  pub output_count : length (items_of t.outputs) ≡ length v.outputs

pub reads : (t : Transaction) (v : TransactionValue) → Hands t v → Read t v
reads t v h = record {
  inputs = ap inputs_in h.inputs ∙ inputs_all v.inputs;
  outputs = ap outputs_in h.outputs ∙ outputs_all v.outputs;
  input_count = ap length h.inputs ∙ length-map v.inputs spends;
  output_count = ap length h.outputs ∙ length-map v.outputs makes;
}
