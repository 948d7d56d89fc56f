-- The steps of the form: what a step says where it succeeds, and when it does.
use Rattle.std.proofs.Common.{◌≡◌, ℕ, zero, suc, ◌+◌, ◌-◌, ◌*◌, ◌<◌, ◌≤◌, Bool, true, false, cond, ltb, List, [], ◌∷◌, map, length, get_or, drop, is_ok, Ok, Err, Result, sym, refl, ap, ◌∙◌, subst, arith, lit<, length-drop, drop_of_length-le, drop-cons, le-ltb, lt-ltb}
use Rattle.std.proofs.lemmas.Bool.Decides.{nat_tests}
use Rattle.compact.specs.Compact.{read_size}
use Rattle.compact.specs.declared.SizeFault.{SizeFault}
use Rattle.compact.specs.declared.SizeFault.TheVariants as size
use Rattle.compact.proofs.Parts.{encode_1}
use Rattle.compact.proofs.Laws.{written_is_read, small_is_a_byte, nothing_is_cut}
use Rattle.blockbytes.specs.declared.fault.FormFault.{FormFault}
use Rattle.blockbytes.specs.declared.fault.FormFault.TheVariants.{Cut, OverCount, Tail}
use Rattle.blockbytes.specs.Form.{then, times, field, at_most, count, counted, input, output, transaction, ended, block}
use Rattle.blockbytes.specs.Places.{counted_end, input_end, output_end, inputs_end, transaction_end, list_at, end_of}

-- with steps to go, the next one comes first
pub next : (step : ℕ → Result ℕ FormFault) (n i at : ℕ) → i < n → times (n - i) step at ≡ then (step at) (λ j. times (n - (i + 1)) step j)
next step n i at h =
    let e : n - i ≡ suc (n - (i + 1)) = omega arith in
    ap (λ k. times k step at) e

-- what succeeds has an answer
pub ok_of : {X : Type 0} (r : Result X FormFault) → is_ok r ≡ true → (x : X) × (r ≡ Ok x)
ok_of (Ok x) h = (x, refl)
ok_of (Err e) h = absurd (grind arith)

pub ok_is : {X : Type 0} (r : Result X FormFault) (x : X) → r ≡ Ok x → is_ok r ≡ true
ok_is r x h = ap is_ok h

-- where two steps succeed, so do both
pub then_ok : {X Y : Type 0} (r : Result X FormFault) (f : X → Result Y FormFault) (y : Y) → then r f ≡ Ok y → (x : X) × (r ≡ Ok x) × (f x ≡ Ok y)
then_ok (Ok x) f y h = (x, refl, h)
then_ok (Err e) f y h = let z : ◌≡◌ {A = ℕ} 0 1 = cc in absurd (omega arith)

pub ok_same : {X : Type 0} (x y : X) → ◌≡◌ {A = Result X FormFault} (Ok x) (Ok y) → x ≡ y
ok_same x y h = cc

pub field_ok : (k : ℕ) (b : List ℕ) (at i : ℕ) → field k b at ≡ Ok i → (i ≡ at + k) × (at + k ≤ length b)
field_ok k b at i h = (grind (arith, nat_tests), grind (arith, nat_tests))

pub field_yes : (k : ℕ) (b : List ℕ) (at : ℕ) → at + k ≤ length b → field k b at ≡ Ok (at + k)
field_yes k b at h = grind (arith, nat_tests)

-- where a test has a fault in its way and none came
pub chosen : {X : Type 0} (c : Bool) (e : FormFault) (x y : X) → cond c (Err e) (Ok x) ≡ Ok y → (c ≡ false) × (x ≡ y)
chosen true e x y h = let z : ◌≡◌ {A = ℕ} 0 1 = cc in absurd (omega arith)
chosen false e x y h = (refl, cc)

-- a count that is read
at_most_ok : (limit l at n k : ℕ) (r : Result (ℕ × List ℕ) SizeFault) → at_most limit l at r ≡ Ok (n, k) → (t : List ℕ) × (r ≡ Ok (n, t)) × (n ≤ limit) × (k ≡ l - length t)
at_most_ok limit l at n k (Ok p) h =
    let c = chosen (ltb limit p.0) (OverCount at) (p.0, l - length p.1) (n, k) h in
    let f : p.0 ≡ n = ap (λ q. q.0) c.1 in
    let g : l - length p.1 ≡ k = ap (λ q. q.1) c.1 in
    let le : p.0 ≤ limit = let t = c.0 in grind (arith, nat_tests) in
    (p.1, ap (λ m. Ok (m, p.1)) f, omega arith, sym g)
at_most_ok limit l at n k (Err size.Cut) h = absurd (grind arith)
at_most_ok limit l at n k (Err size.LongForm) h = absurd (grind arith)

pub record Counted (limit : ℕ) (b : List ℕ) (at n k : ℕ) : Type 0 where
  pub number : n ≡ get_or b at 0
  pub small : n ≤ limit
  pub inside : at < length b
  pub place : k ≡ at + 1

pub count_ok : (limit : ℕ) (b : List ℕ) (at n k : ℕ) → limit < 253 → count limit b at ≡ Ok (n, k) → Counted limit b at n k
unfolding count
count_ok limit b at n k l h =
    let p = at_most_ok limit (length b) at n k (read_size (drop at b)) h in
    let e = small_is_a_byte (drop at b) n p.0 (omega (arith, p.2)) p.1 in
    let ld = length-drop at b in
    let le = ap length e in
    let lt : at < length b = omega arith in
    let c = drop-cons b at 0 lt in
    let lt' = length-drop (suc at) b in
    let s : n ∷ p.0 ≡ get_or b at 0 ∷ drop (suc at) b = sym e ∙ c in
    let hd : n ≡ get_or b at 0 = cc in
    let tl : p.0 ≡ drop (suc at) b = cc in
    record { number = hd; small = p.2; inside = lt; place = omega (arith, p.3, ap length tl) }

pub count_yes : (limit : ℕ) (b : List ℕ) (at n : ℕ) → limit < 253 → at < length b → n ≡ get_or b at 0 → n ≤ limit → count limit b at ≡ Ok (n, at + 1)
unfolding count
count_yes limit b at n l lt e h =
    let d : drop at b ≡ n ∷ drop (suc at) b = drop-cons b at 0 lt ∙ ap (λ m. m ∷ drop (suc at) b) (sym e) in
    let w : read_size (n ∷ drop (suc at) b) ≡ Ok (n, drop (suc at) b) = rw (encode_1 n (omega arith)) at (written_is_read n (drop (suc at) b) (omega arith)) in
    let k : length b - length (drop (suc at) b) ≡ at + 1 = simp length-drop (omega arith) in
    rw (d, w, le-ltb limit n h, k)

heads : (x y : ℕ) (xs ys : List ℕ) → x ∷ xs ≡ y ∷ ys → x ≡ y
heads x y xs ys h = cc

-- a number above the limit
pub count_over : (limit : ℕ) (b : List ℕ) (at n : ℕ) (t : List ℕ) → limit < 253 → at < length b → limit < get_or b at 0 → read_size (drop at b) ≡ Ok (n, t) → count limit b at ≡ Err (OverCount at)
unfolding count
count_over limit b at n t l lt o h =
    let no : n ≤ limit → ⊥ = λ q. let e : n ≡ get_or b at 0 = heads n (get_or b at 0) t (drop (suc at) b) (sym (small_is_a_byte (drop at b) n t (omega arith) h) ∙ drop-cons b at 0 lt) in omega arith in
    let g : limit < n = grind arith in
    rw (h, lt-ltb limit n g)

pub count_none : (limit : ℕ) (b : List ℕ) (at : ℕ) → length b ≤ at → count limit b at ≡ Err (Cut at)
unfolding count
count_none limit b at h = rw (drop_of_length-le b h, nothing_is_cut)

-- an input that is read
pub record InputOk (b : List ℕ) (at e : ℕ) : Type 0 where
  pub end : e ≡ input_end b at
  pub inside : input_end b at ≤ length b
  pub small : get_or b (at + 36) 0 ≤ 100

pub input_ok : (b : List ℕ) (at e : ℕ) → input b at ≡ Ok e → InputOk b at e
input_ok b at e h =
    let p = then_ok (field 32 b at) (λ i. then (field 4 b i) (λ j. then (count 100 b j) (λ n. field n.0 b n.1))) e h in
    let q = then_ok (field 4 b p.0) (λ j. then (count 100 b j) (λ n. field n.0 b n.1)) e p.2 in
    let r = then_ok (count 100 b q.0) (λ n. field n.0 b n.1) e q.2 in
    let f = field_ok 32 b at p.0 p.1 in
    let g = field_ok 4 b p.0 q.0 q.1 in
    let c = count_ok 100 b q.0 r.0.0 r.0.1 (lit< tt) r.1 in
    let w = field_ok r.0.0 b r.0.1 e r.2 in
    let at36 : q.0 ≡ at + 36 = omega (arith, f.0, g.0) in
    let n : r.0.0 ≡ get_or b (at + 36) 0 = c.number ∙ ap (λ k. get_or b k 0) at36 in
    record { end = omega (arith, w.0, c.place); inside = omega (arith, w.1, c.place); small = omega (arith, c.small) }

pub input_yes : (b : List ℕ) (at : ℕ) → input_end b at ≤ length b → get_or b (at + 36) 0 ≤ 100 → input b at ≡ Ok (input_end b at)
input_yes b at l s =
    let f = field_yes 32 b at (omega arith) in
    let g = field_yes 4 b (at + 32) (omega arith) in
    let at36 : at + 32 + 4 ≡ at + 36 = omega arith in
    let c = count_yes 100 b (at + 36) (get_or b (at + 36) 0) (lit< tt) (omega arith) refl s in
    let at37 : at + 36 + 1 ≡ at + 37 = omega arith in
    let w = field_yes (get_or b (at + 36) 0) b (at + 37) l in
    rw (f, g, at36, c, at37, w)

pub output_ok : (b : List ℕ) (at e : ℕ) → output b at ≡ Ok e → (e ≡ output_end at) × (at + 17 ≤ length b)
output_ok b at e h =
    let p = then_ok (field 8 b at) (λ i. then (field 1 b i) (λ j. field 8 b j)) e h in
    let q = then_ok (field 1 b p.0) (λ j. field 8 b j) e p.2 in
    let f = field_ok 8 b at p.0 p.1 in
    let g = field_ok 1 b p.0 q.0 q.1 in
    let w = field_ok 8 b q.0 e q.2 in
    (omega (arith, f.0, g.0, w.0), omega (arith, f.0, g.0, w.1))

pub output_yes : (b : List ℕ) (at : ℕ) → at + 17 ≤ length b → output b at ≡ Ok (output_end at)
output_yes b at l =
    let f = field_yes 8 b at (omega arith) in
    let g = field_yes 1 b (at + 8) (omega arith) in
    let w = field_yes 8 b (at + 8 + 1) (omega arith) in
    let e : at + 8 + 1 + 8 ≡ at + 17 = omega arith in
    rw (f, g, w) (ap Ok e)

-- steps that end where `end` says
abbrev pub Ends : (ℕ → Result ℕ FormFault) → (ℕ → ℕ) → Type 0
Ends step end = (at e : ℕ) → step at ≡ Ok e → e ≡ end at

pub input_ends : (b : List ℕ) → Ends (input b) (input_end b)
input_ends b at e h = (input_ok b at e h).end

pub output_ends : (b : List ℕ) → Ends (output b) output_end
output_ends b at e h = (output_ok b at e h).0

pub times_end : (step : ℕ → Result ℕ FormFault) (end : ℕ → ℕ) → Ends step end → (n : ℕ) → Ends (times n step) (end_of n end)
times_end step end d zero at e h = sym (ok_same at e h)
times_end step end d (suc n) at e h =
    let p = then_ok (step at) (λ i. times n step i) e h in
    times_end step end d n p.0 e p.2 ∙ ap (λ i. end_of n end i) (d at p.0 p.1)

-- the first of n steps, and those after it
pub times_first : (step : ℕ → Result ℕ FormFault) (end : ℕ → ℕ) → Ends step end → (n at : ℕ) → 0 < n → is_ok (times n step at) ≡ true → (step at ≡ Ok (end at)) × (is_ok (times (n - 1) step (end at)) ≡ true)
times_first step end d zero at l h = absurd (omega arith)
times_first step end d (suc n) at l h =
    let q = ok_of (then (step at) (λ i. times n step i)) h in
    let p = then_ok (step at) (λ i. times n step i) q.0 q.1 in
    let e = d at p.0 p.1 in
    let m : suc n - 1 ≡ n = omega arith in
    (p.1 ∙ ap Ok e, ap (λ k. is_ok (times k step (end at))) m ∙ ap (λ i. is_ok (times n step i)) (sym e) ∙ ok_is (times n step p.0) q.0 p.2)

pub list_first : {X : Type 0} (value : ℕ → X) (end : ℕ → ℕ) (n at : ℕ) → 0 < n → list_at n value end at ≡ value at ∷ list_at (n - 1) value end (end at)
list_first value end zero at l = absurd (omega arith)
list_first value end (suc n) at l = let m : n ≡ suc n - 1 = omega arith in ap (λ k. value at ∷ list_at k value end (end at)) m

pub list_none : {X : Type 0} (value : ℕ → X) (end : ℕ → ℕ) (n at : ℕ) → n ≡ 0 → list_at n value end at ≡ []
list_none value end n at h = ap (λ k. list_at k value end at) h

pub ends_first : (end : ℕ → ℕ) (n at : ℕ) → 0 < n → end_of n end at ≡ end_of (n - 1) end (end at)
ends_first end zero at l = absurd (omega arith)
ends_first end (suc n) at l = let m : n ≡ suc n - 1 = omega arith in ap (λ k. end_of k end (end at)) m

-- one more is handed out: the list, and what is left of it
pub list_taken : {X : Type 0} (value : ℕ → X) (end : ℕ → ℕ) (n at : ℕ) (x : X) (e : ℕ) → 0 < n → x ≡ value at → e ≡ end at → list_at n value end at ≡ x ∷ list_at (n - 1) value end e
list_taken value end n at x e l p q =
    list_first value end n at l ∙ ap (λ y. y ∷ list_at (n - 1) value end (end at)) (sym p) ∙ ap (λ k. x ∷ list_at (n - 1) value end k) (sym q)

pub times_taken : (step : ℕ → Result ℕ FormFault) (end : ℕ → ℕ) → Ends step end → (n at e : ℕ) → 0 < n → e ≡ end at → is_ok (times n step at) ≡ true → is_ok (times (n - 1) step e) ≡ true
times_taken step end d n at e l q h = ap (λ k. is_ok (times (n - 1) step k)) q ∙ (times_first step end d n at l h).1

pub length_list : {X : Type 0} (value : ℕ → X) (end : ℕ → ℕ) (n at : ℕ) → length (list_at n value end at) ≡ n
length_list value end zero at = refl
length_list value end (suc n) at = ap suc (length_list value end n (end at))

pub map_list : {X Y : Type 0} (f : X → Y) (value : ℕ → X) (end : ℕ → ℕ) (n at : ℕ) → list_at n (λ i. f (value i)) end at ≡ map f (list_at n value end at)
map_list f value end zero at = refl
map_list f value end (suc n) at = ap (λ xs. f (value at) ∷ xs) (map_list f value end n (end at))

-- a counted list that is read
pub record ListOk (step : ℕ → Result ℕ FormFault) (end : ℕ → ℕ) (b : List ℕ) (at e : ℕ) : Type 0 where
  pub inside : at < length b
  pub few : get_or b at 0 ≤ 64
  pub steps : times (get_or b at 0) step (at + 1) ≡ Ok e
  pub is : e ≡ counted_end end b at

pub counted_ok : (step : ℕ → Result ℕ FormFault) (end : ℕ → ℕ) → Ends step end → (b : List ℕ) (at e : ℕ) → counted step b at ≡ Ok e → ListOk step end b at e
counted_ok step end d b at e h =
    let p = then_ok (count 64 b at) (λ n. times n.0 step n.1) e h in
    let c = count_ok 64 b at p.0.0 p.0.1 (lit< tt) p.1 in
    let t : times (get_or b at 0) step (at + 1) ≡ Ok e = ap (λ k. times k step (at + 1)) (sym c.number) ∙ ap (λ k. times p.0.0 step k) (sym c.place) ∙ p.2 in
    record { inside = c.inside; few = omega (arith, c.number, c.small); steps = t; is = times_end step end d (get_or b at 0) (at + 1) e t }

list_moved : (step : ℕ → Result ℕ FormFault) (end : ℕ → ℕ) (b : List ℕ) (i j e : ℕ) → i ≡ j → ListOk step end b i e → ListOk step end b j e
list_moved step end b i j e h l = let P : ℕ → Type 0 = λ k. ListOk step end b k e in subst P h l

-- a transaction that is read
pub record TransactionOk (b : List ℕ) (at e : ℕ) : Type 0 where
  pub head : at + 32 ≤ length b
  pub ins : ListOk (input b) (input_end b) b (at + 32) (inputs_end b at)
  pub outs : ListOk (output b) output_end b (inputs_end b at) e

pub transaction_ok : (b : List ℕ) (at e : ℕ) → transaction b at ≡ Ok e → TransactionOk b at e
transaction_ok b at e h =
    let p = then_ok (field 32 b at) (λ i. then (counted (input b) b i) (λ j. counted (output b) b j)) e h in
    let q = then_ok (counted (input b) b p.0) (λ j. counted (output b) b j) e p.2 in
    let f = field_ok 32 b at p.0 p.1 in
    let i = list_moved (input b) (input_end b) b p.0 (at + 32) q.0 f.0 (counted_ok (input b) (input_end b) (input_ends b) b p.0 q.0 q.1) in
    let m : q.0 ≡ inputs_end b at = i.is in
    let P : ℕ → Type 0 = λ k. ListOk (input b) (input_end b) b (at + 32) k in
    let o = counted_ok (output b) output_end (output_ends b) b q.0 e q.2 in
    record { head = f.1; ins = subst P m i; outs = list_moved (output b) output_end b q.0 (inputs_end b at) e m o }

pub transaction_ends : (b : List ℕ) → Ends (transaction b) (transaction_end b)
transaction_ends b at e h = (transaction_ok b at e h).outs.is

pub record BlockOk (b : List ℕ) : Type 0 where
  pub head : 64 ≤ length b
  pub end : ℕ
  pub past : length b ≤ end
  pub all : ListOk (transaction b) (transaction_end b) b 64 end

pub block_ok : (b : List ℕ) (e : ℕ) → block b ≡ Ok e → BlockOk b
block_ok b e h =
    let p = then_ok (field 32 b 0) (λ i. then (field 32 b i) (λ j. then (counted (transaction b) b j) (λ k. ended b k))) e h in
    let q = then_ok (field 32 b p.0) (λ j. then (counted (transaction b) b j) (λ k. ended b k)) e p.2 in
    let r = then_ok (counted (transaction b) b q.0) (λ k. ended b k) e q.2 in
    let f = field_ok 32 b 0 p.0 p.1 in
    let g = field_ok 32 b p.0 q.0 q.1 in
    let t = chosen (ltb r.0 (length b)) (Tail r.0) r.0 e r.2 in
    let z : length b ≤ r.0 = let u = t.0 in grind (arith, nat_tests) in
    let s64 : q.0 ≡ 64 = omega (arith, f.0, g.0) in
    record { head = omega (arith, f.0, g.1); end = r.0; past = z; all = list_moved (transaction b) (transaction_end b) b q.0 64 r.0 s64 (counted_ok (transaction b) (transaction_end b) (transaction_ends b) b q.0 r.0 r.1) }

-- outputs have one size
pub outputs_end : (n at : ℕ) → end_of n output_end at ≡ at + 17 * n
outputs_end zero at = omega arith
outputs_end (suc n) at = outputs_end n (at + 17) ∙ omega arith

pub outputs_inside : (b : List ℕ) (n at e : ℕ) → at ≤ length b → times n (output b) at ≡ Ok e → e ≤ length b
outputs_inside b zero at e l h = let s = ok_same at e h in omega arith
outputs_inside b (suc n) at e l h =
    let p = then_ok (output b at) (λ i. times n (output b) i) e h in
    let o = output_ok b at p.0 p.1 in
    outputs_inside b n p.0 e (omega (arith, o.0, o.1)) p.2

-- the next of some transactions that can be read
pub record Found (b : List ℕ) (n at : ℕ) : Type 0 where
  pub id : at + 32 < length b
  pub few_in : get_or b (at + 32) 0 ≤ 64
  pub ins : is_ok (times (get_or b (at + 32) 0) (input b) (at + 32 + 1)) ≡ true
  pub mid : inputs_end b at < length b
  pub few_out : get_or b (inputs_end b at) 0 ≤ 64
  pub outs : is_ok (times (get_or b (inputs_end b at) 0) (output b) (inputs_end b at + 1)) ≡ true
  pub end : transaction_end b at ≡ inputs_end b at + 1 + 17 * get_or b (inputs_end b at) 0
  pub inside : inputs_end b at + 1 + 17 * get_or b (inputs_end b at) 0 ≤ length b
  pub rest : is_ok (times (n - 1) (transaction b) (transaction_end b at)) ≡ true

pub found : (b : List ℕ) (n at : ℕ) → 0 < n → is_ok (times n (transaction b) at) ≡ true → Found b n at
found b n at l h =
    let f = times_first (transaction b) (transaction_end b) (transaction_ends b) n at l h in
    let t = transaction_ok b at (transaction_end b at) f.0 in
    let m = get_or b (inputs_end b at) 0 in
    let e = outputs_end m (inputs_end b at + 1) in
    let i = outputs_inside b m (inputs_end b at + 1) (transaction_end b at) (omega (arith, t.outs.inside)) t.outs.steps in
    record {
      id = t.ins.inside;
      few_in = t.ins.few;
      ins = ok_is _ _ t.ins.steps;
      mid = t.outs.inside;
      few_out = t.outs.few;
      outs = ok_is _ _ t.outs.steps;
      end = e;
      inside = omega arith;
      rest = f.1;
    }

-- the next of some inputs that can be read, in a loop that has passed i of n
pub input_next : (b : List ℕ) (n i at : ℕ) → i < n → is_ok (times (n - i) (input b) at) ≡ true → InputOk b at (input_end b at)
input_next b n i at l h =
    input_ok b at (input_end b at) (times_first (input b) (input_end b) (input_ends b) (n - i) at (omega arith) h).0

pub inputs_again : (b : List ℕ) (n i at from : ℕ) → i < n → is_ok (times (n - i) (input b) at) ≡ true → end_of (n - i) (input_end b) at ≡ end_of n (input_end b) from → (is_ok (times (n - (i + 1)) (input b) (input_end b at)) ≡ true) × (end_of (n - (i + 1)) (input_end b) (input_end b at) ≡ end_of n (input_end b) from)
inputs_again b n i at from l h e =
    let m : n - (i + 1) ≡ n - i - 1 = omega arith in (
      ap (λ k. is_ok (times k (input b) (input_end b at))) m ∙ (times_first (input b) (input_end b) (input_ends b) (n - i) at (omega arith) h).1,
      ap (λ k. end_of k (input_end b) (input_end b at)) m ∙ sym (ends_first (input_end b) (n - i) at (omega arith)) ∙ e,
    )

pub outputs_yes : (b : List ℕ) (n at : ℕ) → at + 17 * n ≤ length b → times n (output b) at ≡ Ok (at + 17 * n)
outputs_yes b zero at h = let e : at ≡ at + 17 * 0 = omega arith in ap Ok e
outputs_yes b (suc n) at h =
    let e : at + 17 + 17 * n ≡ at + 17 * suc n = omega arith in
    ap (λ r. then r (λ i. times n (output b) i)) (output_yes b at (omega arith)) ∙ outputs_yes b n (at + 17) (omega arith) ∙ ap Ok e
