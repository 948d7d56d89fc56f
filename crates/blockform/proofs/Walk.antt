-- What the next of a reader's transactions is.
use Rattle.std.proofs.Common.{◌≡◌, ℕ, ◌+◌, ◌≤◌, List, length, get_or, drop, ap, arith, length-append, length-drop, length-take-le}
use Rattle.compact.specs.Compact.{encode}
use Rattle.compact.proofs.Parts.{encode_1}
use Rattle.blockbytes.specs.Form.{input, output}
use Rattle.blockbytes.specs.Value.{encode_all, encode_input, encode_output, encode_transaction}
use Rattle.blockbytes.specs.Places.{input_at, input_end, output_at, output_end, inputs_end, transaction_at, transaction_end}
use Rattle.blockform.specs.declared.reader.Transactions.{Transactions}
use Rattle.blockbytes.proofs.Steps.{Found, found, input_ends, output_ends, length_list}
use Rattle.blockbytes.proofs.Encoding.{input_long, output_long, all_long}

pub next_found : (r : Transactions) → (r.left ≡ 0 → ⊥) → Found r.block.now r.left r.place
next_found r h = found r.block.now r.left r.place (omega arith) r.good

-- a count of at most 64 has one byte
one_byte : {X : Type 0} (xs : List X) → length xs ≤ 64 → length (encode (length xs)) ≡ 1
one_byte xs h = ap length (encode_1 (length xs) (omega arith))

-- where the inputs of the next transaction end, and the transaction
pub inputs_long : (b : List ℕ) (n at : ℕ) → Found b n at → inputs_end b at ≡ at + 33 + length (encode_all encode_input (transaction_at b at).inputs)
inputs_long b n at f =
    let e = all_long (input b) (input_at b) (input_end b) encode_input (input_ends b) (input_long b) (get_or b (at + 32) 0) (at + 32 + 1) f.ins in
    omega arith

pub transaction_long : (b : List ℕ) (n at : ℕ) → Found b n at → transaction_end b at ≡ at + length (encode_transaction (transaction_at b at))
transaction_long b n at f =
    let v = transaction_at b at in
    let i = inputs_long b n at f in
    let o = all_long (output b) (output_at b) output_end encode_output (output_ends b) (λ k _. output_long b k) (get_or b (inputs_end b at) 0) (inputs_end b at + 1) f.outs in
    let li = length_list (input_at b) (input_end b) (get_or b (at + 32) 0) (at + 32 + 1) in
    let lo = length_list (output_at b) output_end (get_or b (inputs_end b at) 0) (inputs_end b at + 1) in
    let ci = one_byte v.inputs (omega (arith, f.few_in)) in
    let co = one_byte v.outputs (omega (arith, f.few_out)) in
    let la = length-drop at b in
    let ld : length v.id ≡ 32 = length-take-le 32 (drop at b) (omega (arith, f.id)) in
    simp length-append (omega arith)
