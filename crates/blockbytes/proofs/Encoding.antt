-- What is read writes the bytes that were read, and what is written is read.
use Rattle.std.proofs.Common.{◌≡◌, ℕ, zero, suc, ◌+◌, ◌-◌, ◌^◌, ◌<◌, ◌≤◌, Bool, true, false, cond, ltb, List, [], ◌∷◌, ◌++◌, length, get_or, take, drop, is_ok, Ok, Err, Result, sym, refl, ap, ◌∙◌, subst, append_assoc, append-nil, add-zero, arith, lit<, length-append, length-drop, take-append-drop, drop_of_length-le, length-take-le, get_or-drop, drop-drop, take_at, drop_at, le-ltb}
use Rattle.std.proofs.lemmas.Bool.Decides.{nat_tests}
use Rattle.std.proofs.lemmas.List.{drop_more}
use Rattle.compact.specs.Compact.{le, encode, four_at, eight_at, Bytes}
use Rattle.compact.proofs.Parts.{unle, from, split, le_at, unle_le, unle_lt, length_le, four_is, eight_is, encode_1}
use Rattle.blockbytes.specs.declared.fault.FormFault.{FormFault}
use Rattle.blockbytes.specs.declared.fault.FormFault.TheVariants.{Tail, OverSize}
use Rattle.blockbytes.specs.Form.{then, times, field, counted, input, output, transaction, ended, block}
use Rattle.blockbytes.specs.Value.{InputValue, OutputValue, TransactionValue, BlockValue, encode_all, encode_list, encode_input, encode_output, encode_transaction, encode_block, All, Few, InputWithin, OutputWithin, TransactionWithin, BlockWithin}
use Rattle.blockbytes.specs.Places.{list_at, end_of, counted_at, counted_end, id_at, input_at, input_end, output_at, output_end, inputs_end, transaction_at, transaction_end, block_at, read_block}
use Rattle.blockbytes.specs.Laws.{Accepted, ReadIsEncoded, EncodedIsRead, OneBlock}
use Rattle.blockbytes.proofs.Steps.{ok_of, ok_is, times_first, chosen, field_ok, then_ok, ok_same, field_yes, count_yes, input_ok, input_yes, output_ok, output_yes, Ends, transaction_ends, counted_ok, input_ends, output_ends, length_list}

-- parts one after another
join : {x y : List ℕ} (a c z : List ℕ) → x ≡ a ++ y → y ≡ c ++ z → x ≡ (a ++ c) ++ z
join a c z p q = p ∙ ap (λ u. a ++ u) q ∙ sym (append_assoc a c z)

-- what reading at a place gives where x is written there and t follows
pub record Written {X : Type 0} (b : List ℕ) (step : ℕ → Result ℕ FormFault) (value : ℕ → X) (end : ℕ → ℕ) (x : X) (at : ℕ) (t : List ℕ) : Type 0 where
  pub answer : step at ≡ Ok (end at)
  pub is : value at ≡ x
  pub rest : drop (end at) b ≡ t
  pub inside : end at ≤ length b

-- reading and writing are each other's inverse
pub record Codec {X : Type 0} (b : List ℕ) (step : ℕ → Result ℕ FormFault) (value : ℕ → X) (end : ℕ → ℕ) (enc : X → List ℕ) (P : X → Type 0) : Type 0 where
  pub sound : (at e : ℕ) → Bytes b → step at ≡ Ok e → P (value at) × (drop at b ≡ enc (value at) ++ drop e b) × (e ≡ end at)
  pub complete : (x : X) (at : ℕ) (t : List ℕ) → P x → at ≤ length b → drop at b ≡ enc x ++ t → Written b step value end x at t

-- a field: the bytes there, and what follows
field_sound : (k : ℕ) (b : List ℕ) (at : ℕ) → drop at b ≡ take k (drop at b) ++ drop (at + k) b
field_sound k b at = sym (take-append-drop k (drop at b)) ∙ ap (λ u. take k (drop at b) ++ u) (drop-drop k at b)

pub record Field (k : ℕ) (b : List ℕ) (at : ℕ) (x t : List ℕ) : Type 0 where
  pub is : take k (drop at b) ≡ x
  pub rest : drop (at + k) b ≡ t
  pub inside : at + k ≤ length b

field_complete : (k : ℕ) (b : List ℕ) (at : ℕ) (x t : List ℕ) → at ≤ length b → length x ≡ k → drop at b ≡ x ++ t → Field k b at x t
field_complete k b at x t h l e =
    let n : length (drop at b) ≡ length x + length t = ap length e ∙ length-append x t in
    let d = length-drop at b in
    record {
      is = ap (take k) e ∙ take_at x t k l;
      rest = sym (drop-drop k at b) ∙ ap (drop k) e ∙ drop_at x t k l;
      inside = omega arith;
    }

-- a number of k bytes
number_sound : (k : ℕ) (b : List ℕ) (at n : ℕ) → Bytes b → at + k ≤ length b → n ≡ unle (from k at b) → drop at b ≡ le k n ++ drop (at + k) b
number_sound k b at n y l e = split k at b l ∙ ap (λ u. u ++ drop (at + k) b) (sym (le_at k at n b y e))

length_from : (k i : ℕ) (s : List ℕ) → length (from k i s) ≡ k
length_from zero i s = refl
length_from (suc k) i s = ap suc (length_from k (i + 1) s)

number_complete : (k : ℕ) (b : List ℕ) (at n : ℕ) (t : List ℕ) → n < 256 ^ k → Field k b at (le k n) t → unle (from k at b) ≡ n
number_complete k b at n t h f =
    let e : take k (drop at b) ≡ from k at b = ap (take k) (split k at b f.inside) ∙ take_at (from k at b) (drop (at + k) b) k (length_from k at b) in
    ap unle (sym e ∙ f.is) ∙ unle_le k n h

-- a count of less than 253 is one byte
byte_sound : (b : List ℕ) (at n : ℕ) → at < length b → n ≡ get_or b at 0 → n < 253 → drop at b ≡ encode n ++ drop (at + 1) b
byte_sound b at n l e h =
    drop_more b at 0 l ∙ ap (λ x. x ∷ drop (at + 1) b) (sym e) ∙ ap (λ u. u ++ drop (at + 1) b) (sym (encode_1 n h))

head_at : (b : List ℕ) (at n : ℕ) (t : List ℕ) → drop at b ≡ n ∷ t → get_or b at 0 ≡ n
head_at b at n t e = ap (λ k. get_or b k 0) (sym (add-zero at)) ∙ sym (get_or-drop at b 0 0) ∙ ap (λ u. get_or u 0 0) e

byte_complete : (b : List ℕ) (at n : ℕ) (t : List ℕ) → n < 253 → at ≤ length b → drop at b ≡ encode n ++ t → (get_or b at 0 ≡ n) × Field 1 b at (n ∷ []) t
byte_complete b at n t h l e =
    let e' : drop at b ≡ (n ∷ []) ++ t = e ∙ ap (λ u. u ++ t) (encode_1 n h) in
    let f = field_complete 1 b at (n ∷ []) t l refl e' in
    (head_at b at n t e', f)

-- an input
input_sound : (b : List ℕ) (at e : ℕ) → Bytes b → input b at ≡ Ok e → InputWithin (input_at b at) × (drop at b ≡ encode_input (input_at b at) ++ drop e b) × (e ≡ input_end b at)
input_sound b at e y h =
    let o = input_ok b at e h in
    let n = get_or b (at + 36) 0 in
    let w = take n (drop (at + 37) b) in
    let i = le 4 (four_at b (at + 32)) in
    let z = drop e b in
    let la = length-drop at b in
    let l37 = length-drop (at + 37) b in
    let lw : length w ≡ n = length-take-le n (drop (at + 37) b) (omega (arith, o.inside)) in
    let li : length (id_at b at) ≡ 32 = length-take-le 32 (drop at b) (omega (arith, o.inside)) in
    let fit : four_at b (at + 32) < 4294967296 = omega (arith, four_is b (at + 32), unle_lt 4 (at + 32) b y) in
    let e36 : at + 32 + 4 ≡ at + 36 = omega arith in
    let e37 : at + 36 + 1 ≡ at + 37 = omega arith in
    let p1 = field_sound 32 b at in
    let p2 = number_sound 4 b (at + 32) (four_at b (at + 32)) y (omega (arith, o.inside)) (four_is b (at + 32)) ∙ ap (λ k. le 4 (four_at b (at + 32)) ++ drop k b) e36 in
    let p3 = byte_sound b (at + 36) (length w) (omega (arith, o.inside)) lw (omega (arith, o.small)) ∙ ap (λ k. encode (length w) ++ drop k b) e37 in
    let p4 = field_sound n b (at + 37) ∙ ap (λ k. w ++ drop k b) (sym o.end) in (
      (li, fit, omega (arith, o.small)),
      join (id_at b at) (i ++ (encode (length w) ++ w)) z p1 (join i (encode (length w) ++ w) z p2 (join (encode (length w)) w z p3 p4)),
      o.end,
    )

input_complete : (b : List ℕ) (x : InputValue) (at : ℕ) (t : List ℕ) → InputWithin x → at ≤ length b → drop at b ≡ encode_input x ++ t → Written b (input b) (input_at b) (input_end b) x at t
input_complete b x at t h l e =
    let w = x.witness in
    let i = le 4 x.outpoint.index in
    let c = encode (length w) in
    let f1 = field_complete 32 b at x.outpoint.id ((i ++ (c ++ w)) ++ t) l h.0 (e ∙ append_assoc x.outpoint.id (i ++ (c ++ w)) t) in
    let f2 = field_complete 4 b (at + 32) i ((c ++ w) ++ t) f1.inside (length_le 4 x.outpoint.index) (f1.rest ∙ append_assoc i (c ++ w) t) in
    let v : four_at b (at + 32) ≡ x.outpoint.index = four_is b (at + 32) ∙ number_complete 4 b (at + 32) x.outpoint.index ((c ++ w) ++ t) h.1 f2 in
    let e36 : at + 36 ≡ at + 32 + 4 = omega arith in
    let e37 : at + 37 ≡ at + 36 + 1 = omega arith in
    let f3 = byte_complete b (at + 36) (length w) (w ++ t) (omega (arith, h.2)) (omega (arith, f2.inside)) (ap (λ k. drop k b) e36 ∙ f2.rest ∙ append_assoc c w t) in
    let f4 = field_complete (length w) b (at + 37) w t (omega (arith, f3.1.inside)) refl (ap (λ k. drop k b) e37 ∙ f3.1.rest) in
    let g = f3.0 in
    let u : take (get_or b (at + 36) 0) (drop (at + 37) b) ≡ w = ap (λ k. take k (drop (at + 37) b)) g ∙ f4.is in
    record {
      answer = input_yes b at (omega (arith, f4.inside)) (omega (arith, h.2));
      is = λ j. record { outpoint = record { id = f1.is j; index = v j }; witness = u j };
      rest = ap (λ k. drop (at + 37 + k) b) g ∙ f4.rest;
      inside = omega (arith, f4.inside);
    }

pub input_codec : (b : List ℕ) → Codec b (input b) (input_at b) (input_end b) encode_input InputWithin
input_codec b = record { sound = input_sound b; complete = input_complete b }

-- an output
output_sound : (b : List ℕ) (at e : ℕ) → Bytes b → output b at ≡ Ok e → OutputWithin (output_at b at) × (drop at b ≡ encode_output (output_at b at) ++ drop e b) × (e ≡ output_end at)
output_sound b at e y h =
    let o = output_ok b at e h in
    let v = le 8 (eight_at b at) in
    let a = le 8 (eight_at b (at + 9)) in
    let k = get_or b (at + 8) 0 in
    let z = drop e b in
    let fv : eight_at b at < 18446744073709551616 = omega (arith, eight_is b at, unle_lt 8 at b y) in
    let fa : eight_at b (at + 9) < 18446744073709551616 = omega (arith, eight_is b (at + 9), unle_lt 8 (at + 9) b y) in
    let e9 : at + 8 + 1 ≡ at + 9 = omega arith in
    let e17 : at + 9 + 8 ≡ e = omega (arith, o.0) in
    let p1 = number_sound 8 b at (eight_at b at) y (omega (arith, o.1)) (eight_is b at) in
    let p2 = drop_more b (at + 8) 0 (omega (arith, o.1)) ∙ ap (λ j. k ∷ drop j b) e9 in
    let p3 = number_sound 8 b (at + 9) (eight_at b (at + 9)) y (omega (arith, o.1)) (eight_is b (at + 9)) ∙ ap (λ j. a ++ drop j b) e17 in
    ((fv, y (at + 8), fa), join v (k ∷ a) z p1 (join (k ∷ []) a z p2 p3), o.0)

output_complete : (b : List ℕ) (x : OutputValue) (at : ℕ) (t : List ℕ) → OutputWithin x → at ≤ length b → drop at b ≡ encode_output x ++ t → Written b (output b) (output_at b) output_end x at t
output_complete b x at t h l e =
    let v = le 8 x.value in
    let a = le 8 x.lock.argument in
    let k = x.lock.kind in
    let f1 = field_complete 8 b at v ((k ∷ a) ++ t) l (length_le 8 x.value) (e ∙ append_assoc v (k ∷ a) t) in
    let v8 : eight_at b at ≡ x.value = eight_is b at ∙ number_complete 8 b at x.value ((k ∷ a) ++ t) h.0 f1 in
    let f2 = field_complete 1 b (at + 8) (k ∷ []) (a ++ t) f1.inside refl f1.rest in
    let g : get_or b (at + 8) 0 ≡ k = head_at b (at + 8) k (a ++ t) f1.rest in
    let e9 : at + 9 ≡ at + 8 + 1 = omega arith in
    let f3 = field_complete 8 b (at + 9) a t (omega (arith, f2.inside)) (length_le 8 x.lock.argument) (ap (λ j. drop j b) e9 ∙ f2.rest) in
    let a8 : eight_at b (at + 9) ≡ x.lock.argument = eight_is b (at + 9) ∙ number_complete 8 b (at + 9) x.lock.argument t h.2 f3 in
    let e17 : at + 17 ≡ at + 9 + 8 = omega arith in
    record {
      answer = output_yes b at (omega (arith, f3.inside));
      is = λ j. record { value = v8 j; lock = record { kind = g j; argument = a8 j } };
      rest = ap (λ j. drop j b) e17 ∙ f3.rest;
      inside = omega (arith, f3.inside);
    }

pub output_codec : (b : List ℕ) → Codec b (output b) (output_at b) output_end encode_output OutputWithin
output_codec b = record { sound = output_sound b; complete = output_complete b }

-- n values, one after another
all_sound : {X : Type 0} (b : List ℕ) (step : ℕ → Result ℕ FormFault) (value : ℕ → X) (end : ℕ → ℕ) (enc : X → List ℕ) (P : X → Type 0) → Codec b step value end enc P → Bytes b → (n at e : ℕ) → times n step at ≡ Ok e → All P (list_at n value end at) × (drop at b ≡ encode_all enc (list_at n value end at) ++ drop e b)
all_sound b step value end enc P k y zero at e h = (tt, ap (λ j. drop j b) (ok_same at e h))
all_sound b step value end enc P k y (suc n) at e h =
    let p = then_ok (step at) (λ i. times n step i) e h in
    let s = k.sound at p.0 y p.1 in
    let q = p.2 in
    let r = all_sound b step value end enc P k y n (end at) e (ap (λ i. times n step i) (sym s.2) ∙ q) in
    let d : drop p.0 b ≡ drop (end at) b = ap (λ j. drop j b) s.2 in
    ((s.0, r.0), join (enc (value at)) (encode_all enc (list_at n value end (end at))) (drop e b) s.1 (d ∙ r.1))

all_complete : {X : Type 0} (b : List ℕ) (step : ℕ → Result ℕ FormFault) (value : ℕ → X) (end : ℕ → ℕ) (enc : X → List ℕ) (P : X → Type 0) → Codec b step value end enc P → (xs : List X) (at : ℕ) (t : List ℕ) → All P xs → at ≤ length b → drop at b ≡ encode_all enc xs ++ t → Written b (times (length xs) step) (list_at (length xs) value end) (end_of (length xs) end) xs at t
all_complete b step value end enc P k [] at t h l e = record { answer = refl; is = refl; rest = e; inside = l }
all_complete b step value end enc P k (x ∷ xs) at t h l e =
    let f = k.complete x at (encode_all enc xs ++ t) h.0 l (e ∙ append_assoc (enc x) (encode_all enc xs) t) in
    let r = all_complete b step value end enc P k xs (end at) t h.1 f.inside f.rest in
    record {
      answer = ap (λ z. then z (λ i. times (length xs) step i)) f.answer ∙ r.answer;
      is = λ j. f.is j ∷ r.is j;
      rest = r.rest;
      inside = r.inside;
    }

-- a count and that many values
pub list_codec : {X : Type 0} (b : List ℕ) (step : ℕ → Result ℕ FormFault) (value : ℕ → X) (end : ℕ → ℕ) (enc : X → List ℕ) (P : X → Type 0) → Codec b step value end enc P → Ends step end → Codec b (counted step b) (counted_at value end b) (counted_end end b) (encode_list enc) (Few P)
list_codec b step value end enc P k d =
    record {
      sound = λ at e y h. let o = counted_ok step end d b at e h in
          let n = get_or b at 0 in
          let xs = list_at n value end (at + 1) in
          let ll : length xs ≡ n = length_list value end n (at + 1) in
          let r = all_sound b step value end enc P k y n (at + 1) e o.steps in
          let p = byte_sound b at (length xs) o.inside ll (omega (arith, o.few)) in
          ((omega (arith, o.few), r.0), join (encode (length xs)) (encode_all enc xs) (drop e b) p r.1, o.is);
      complete = λ xs at t h l e. let n = length xs in
          let f = byte_complete b at n (encode_all enc xs ++ t) (omega (arith, h.0)) l (e ∙ append_assoc (encode n) (encode_all enc xs) t) in
          let g = f.0 in
          let r = all_complete b step value end enc P k xs (at + 1) t h.1 f.1.inside f.1.rest in
          let c = count_yes 64 b at n (lit< tt) (omega (arith, f.1.inside)) (sym g) h.0 in
          let In : ℕ → Type 0 = λ m. end_of m end (at + 1) ≤ length b in
          record {
            answer = ap (λ z. then z (λ m. times m.0 step m.1)) c ∙ r.answer ∙ ap (λ m. Ok (end_of m end (at + 1))) (sym g);
            is = ap (λ m. list_at m value end (at + 1)) g ∙ r.is;
            rest = ap (λ m. drop (end_of m end (at + 1)) b) g ∙ r.rest;
            inside = subst In (sym g) r.inside;
          };
    }

inputs_codec : (b : List ℕ) → Codec b (counted (input b) b) (counted_at (input_at b) (input_end b) b) (counted_end (input_end b) b) (encode_list encode_input) (Few InputWithin)
inputs_codec b = list_codec b (input b) (input_at b) (input_end b) encode_input InputWithin (input_codec b) (input_ends b)

outputs_codec : (b : List ℕ) → Codec b (counted (output b) b) (counted_at (output_at b) output_end b) (counted_end output_end b) (encode_list encode_output) (Few OutputWithin)
outputs_codec b = list_codec b (output b) (output_at b) output_end encode_output OutputWithin (output_codec b) (output_ends b)

-- a transaction
transaction_sound : (b : List ℕ) (at e : ℕ) → Bytes b → transaction b at ≡ Ok e → TransactionWithin (transaction_at b at) × (drop at b ≡ encode_transaction (transaction_at b at) ++ drop e b) × (e ≡ transaction_end b at)
transaction_sound b at e y h =
    let p = then_ok (field 32 b at) (λ i. then (counted (input b) b i) (λ j. counted (output b) b j)) e h in
    let q = then_ok (counted (input b) b p.0) (λ j. counted (output b) b j) e p.2 in
    let f = field_ok 32 b at p.0 p.1 in
    let la = length-drop at b in
    let i = (inputs_codec b).sound (at + 32) q.0 y (ap (λ k. counted (input b) b k) (sym f.0) ∙ q.1) in
    let m = i.2 in
    let o = (outputs_codec b).sound (inputs_end b at) e y (ap (λ k. counted (output b) b k) (sym m) ∙ q.2) in
    let v = transaction_at b at in
    let x = encode_list encode_input v.inputs in
    let z = encode_list encode_output v.outputs in (
      (length-take-le 32 (drop at b) (omega (arith, f.1)), i.0, o.0),
      join v.id (x ++ z) (drop e b) (field_sound 32 b at) (join x z (drop e b) i.1 (ap (λ k. drop k b) m ∙ o.1)),
      o.2,
    )

transaction_complete : (b : List ℕ) (x : TransactionValue) (at : ℕ) (t : List ℕ) → TransactionWithin x → at ≤ length b → drop at b ≡ encode_transaction x ++ t → Written b (transaction b) (transaction_at b) (transaction_end b) x at t
transaction_complete b x at t h l e =
    let ins = encode_list encode_input x.inputs in
    let outs = encode_list encode_output x.outputs in
    let f = field_complete 32 b at x.id ((ins ++ outs) ++ t) l h.0 (e ∙ append_assoc x.id (ins ++ outs) t) in
    let i = (inputs_codec b).complete x.inputs (at + 32) (outs ++ t) h.1 f.inside (f.rest ∙ append_assoc ins outs t) in
    let o = (outputs_codec b).complete x.outputs (inputs_end b at) t h.2 i.inside i.rest in
    record {
      answer = ap (λ r. then r (λ k. then (counted (input b) b k) (λ j. counted (output b) b j))) (field_yes 32 b at f.inside) ∙ ap (λ r. then r (λ j. counted (output b) b j)) i.answer ∙ o.answer;
      is = λ j. record { id = f.is j; inputs = i.is j; outputs = o.is j };
      rest = o.rest;
      inside = o.inside;
    }

transactions_codec : (b : List ℕ) → Codec b (counted (transaction b) b) (counted_at (transaction_at b) (transaction_end b) b) (counted_end (transaction_end b) b) (encode_list encode_transaction) (Few TransactionWithin)
transactions_codec b =
    list_codec b (transaction b) (transaction_at b) (transaction_end b) encode_transaction TransactionWithin (record { sound = transaction_sound b; complete = transaction_complete b }) (transaction_ends b)

-- a block
block_sound : (b : List ℕ) (e : ℕ) → Bytes b → block b ≡ Ok e → BlockWithin (block_at b) × (b ≡ encode_block (block_at b))
block_sound b e y h =
    let p = then_ok (field 32 b 0) (λ i. then (field 32 b i) (λ j. then (counted (transaction b) b j) (λ k. ended b k))) e h in
    let q = then_ok (field 32 b p.0) (λ j. then (counted (transaction b) b j) (λ k. ended b k)) e p.2 in
    let r = then_ok (counted (transaction b) b q.0) (λ k. ended b k) e q.2 in
    let f = field_ok 32 b 0 p.0 p.1 in
    let g = field_ok 32 b p.0 q.0 q.1 in
    let u = chosen (ltb r.0 (length b)) (Tail r.0) r.0 e r.2 in
    let w : length b ≤ r.0 = let c = u.0 in grind (arith, nat_tests) in
    let s64 : q.0 ≡ 64 = omega (arith, f.0, g.0) in
    let l0 = length-drop 0 b in
    let l32 = length-drop 32 b in
    let t = (transactions_codec b).sound 64 r.0 y (ap (λ k. counted (transaction b) b k) (sym s64) ∙ r.1) in
    let v = block_at b in
    let x = encode_list encode_transaction v.transactions in
    let last : drop 64 b ≡ x ++ [] = t.1 ∙ ap (λ z. x ++ z) (drop_of_length-le b w) in
    let whole = join v.id (v.previous ++ x) [] (field_sound 32 b 0) (join v.previous x [] (field_sound 32 b 32) last) in (
      (length-take-le 32 (drop 0 b) (omega (arith, f.1)), length-take-le 32 (drop 32 b) (omega (arith, f.0, g.1)), t.0),
      whole ∙ append-nil (encode_block v),
    )

pub block_complete : (b : List ℕ) (v : BlockValue) → BlockWithin v → b ≡ encode_block v → (e : ℕ) × (block b ≡ Ok e) × (block_at b ≡ v)
block_complete b v h e =
    let x = encode_list encode_transaction v.transactions in
    let f = field_complete 32 b 0 v.id (v.previous ++ x) (omega arith) h.0 e in
    let g = field_complete 32 b 32 v.previous x f.inside h.1 f.rest in
    let t = (transactions_codec b).complete v.transactions 64 [] h.2 g.inside (g.rest ∙ sym (append-nil x)) in
    let k = counted_end (transaction_end b) b 64 in
    let l = length-drop k b in
    let z : length b ≤ k = omega (arith, ap length t.rest) in (
      k,
      ap (λ r. then r (λ i. then (field 32 b i) (λ j. then (counted (transaction b) b j) (λ m. ended b m)))) (field_yes 32 b 0 f.inside)
          ∙ ap (λ r. then r (λ j. then (counted (transaction b) b j) (λ m. ended b m))) (field_yes 32 b 32 g.inside)
          ∙ ap (λ r. then r (λ m. ended b m)) t.answer
          ∙ ap (λ c. cond c (Err (Tail k)) (Ok k)) (le-ltb k (length b) z),
      λ j. record { id = f.is j; previous = g.is j; transactions = t.is j },
    )

not_over : {X : Type 0} (c : Bool) (e : FormFault) (r : Result X FormFault) (x : X) → cond c (Err e) r ≡ Ok x → (c ≡ false) × (r ≡ Ok x)
not_over true e r x h = let z : ◌≡◌ {A = ℕ} 0 1 = cc in absurd (omega arith)
not_over false e r x h = (refl, h)

pub read_is_encoded : ReadIsEncoded
unfolding read_block
read_is_encoded b v y h =
    let p = not_over (ltb 65536 (length b)) OverSize (then (block b) (λ _. Ok (block_at b))) v h in
    let q = then_ok (block b) (λ _. Ok (block_at b)) v p.1 in
    let s = block_sound b q.0 y q.1 in
    let i : block_at b ≡ v = ok_same (block_at b) v q.2 in
    record {
      encodes = s.1 ∙ ap encode_block i;
      within = subst BlockWithin i s.0;
      size = let c = p.0 in grind (arith, nat_tests);
    }

pub encoded_is_read : EncodedIsRead
unfolding read_block
encoded_is_read b v a =
    let c = block_complete b v a.within a.encodes in
    ap (λ t. cond t (Err OverSize) (then (block b) (λ _. Ok (block_at b)))) (le-ltb 65536 (length b) a.size)
    ∙ ap (λ r. then r (λ _. Ok (block_at b))) c.1
    ∙ ap Ok c.2

pub one_block : OneBlock
one_block v w hv hw e =
    sym (block_complete (encode_block v) v hv refl).2 ∙ ap block_at e ∙ (block_complete (encode_block w) w hw refl).2

pub refused : (b : List ℕ) (e : FormFault) → read_block b ≡ Err e → (v : BlockValue) → Accepted b v → ⊥
refused b e h v a =
    let p : ◌≡◌ {A = Result BlockValue FormFault} (Err e) (Ok v) = sym h ∙ encoded_is_read b v a in
    let z : ◌≡◌ {A = ℕ} 0 1 = cc in
    omega arith

-- how many bytes each takes
pub input_long : (b : List ℕ) (at : ℕ) → is_ok (input b at) ≡ true → input_end b at ≡ at + length (encode_input (input_at b at))
input_long b at h =
    let q = ok_of (input b at) h in
    let o = input_ok b at q.0 q.1 in
    let n = get_or b (at + 36) 0 in
    let w = take n (drop (at + 37) b) in
    let la = length-drop at b in
    let l37 = length-drop (at + 37) b in
    let li : length (id_at b at) ≡ 32 = length-take-le 32 (drop at b) (omega (arith, o.inside)) in
    let lw : length w ≡ n = length-take-le n (drop (at + 37) b) (omega (arith, o.inside)) in
    let lc : length (encode (length w)) ≡ 1 = ap length (encode_1 (length w) (omega (arith, o.small))) in
    simp length-append (omega arith)

pub output_long : (b : List ℕ) (at : ℕ) → output_end at ≡ at + length (encode_output (output_at b at))
output_long b at = simp length-append (omega (arith, length_le 8 (eight_at b at), length_le 8 (eight_at b (at + 9))))

-- the same of n values
pub all_long : {X : Type 0} (step : ℕ → Result ℕ FormFault) (value : ℕ → X) (end : ℕ → ℕ) (enc : X → List ℕ) → Ends step end → ((at : ℕ) → is_ok (step at) ≡ true → end at ≡ at + length (enc (value at))) → (n at : ℕ) → is_ok (times n step at) ≡ true → end_of n end at ≡ at + length (encode_all enc (list_at n value end at))
all_long step value end enc d k zero at h = omega arith
all_long step value end enc d k (suc n) at h =
    let f = times_first step end d (suc n) at (omega arith) h in
    let m : suc n - 1 ≡ n = omega arith in
    let r = all_long step value end enc d k n (end at) (ap (λ j. is_ok (times j step (end at))) (sym m) ∙ f.1) in
    let e = k at (ok_is (step at) (end at) f.0) in
    simp length-append (omega arith)
