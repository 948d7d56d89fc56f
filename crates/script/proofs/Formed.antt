-- A line is read as a command exactly when it has that command's form.
use Rattle.std.proofs.Common.{◌≡◌, ℕ, ◌+◌, ◌-◌, ◌*◌, ◌<◌, Bool, true, false, cond, eqb, ltb, List, [], ◌∷◌, ◌++◌, Some, None, Option, sym, refl, ap, ◌∙◌, subst, arith, ltb-true, lt-ltb, eqb-true}
use Rattle.std.specs.List.{prefix_len, take_while}
use Rattle.std.proofs.lemmas.List.{take-append-drop}
use Rattle.std.proofs.lemmas.Option.{some_pair_parts}
use Rattle.std.proofs.lemmas.List.Sums.{take_while-cons}
use Rattle.script.proofs.Digits.{lead_digits, lead_value, lead_rest}
use Rattle.script.specs.declared.command.Command.{Command}
use Rattle.script.specs.declared.command.Command.TheVariants.{Start, Connect, Disconnect, Balance}
use Rattle.script.specs.Commands.{digit, value_after, after_digits, numeral_of, operand_of, command_of, start_of, balance_of, with, whole}
use Rattle.script.specs.Forms.{AllDigits, decimal_value, Numeral, spaced, Form, ReadsEachForm}

-- what ends a run of digits: nothing, or a byte that is no digit
abbrev Stops : List ℕ → Type 0
Stops [] = Unit {0}
Stops (c ∷ cs) = digit c ≡ false

value_of_digits : (n : ℕ) (ds rest : List ℕ) → AllDigits ds → Stops rest → value_after n (ds ++ rest) ≡ decimal_value n ds
value_of_digits n [] [] h k = refl
value_of_digits n [] (c ∷ cs) h k = rw k
value_of_digits n (d ∷ ds) rest h k = rw h.0 (value_of_digits (n * 10 + (d - 48)) ds rest h.1 k)

rest_of_digits : (ds rest : List ℕ) → AllDigits ds → Stops rest → after_digits (ds ++ rest) ≡ rest
rest_of_digits [] [] h k = refl
rest_of_digits [] (c ∷ cs) h k = rw k
rest_of_digits (d ∷ ds) rest h k = rw h.0 (rest_of_digits ds rest h.1 k)

reads_operand : (n : ℕ) (ds rest : List ℕ) → Numeral 18446744073709551616 n ds → Stops rest → operand_of (spaced ds rest) ≡ Some (n, rest)
unfolding operand_of
reads_operand n [] rest h k = absurd (h.some refl)
reads_operand n (d ∷ ds) rest h k = rw (value_of_digits 0 (d ∷ ds) rest h.digits k ∙ h.value, rest_of_digits (d ∷ ds) rest h.digits k, h.digits.0, lt-ltb n 18446744073709551616 h.fits)

-- what an operand that was read looked like
abbrev Spaced : ℕ → List ℕ → List ℕ → Type 0
Spaced n s rest = (ds : List ℕ) × Numeral 18446744073709551616 n ds × (s ≡ spaced ds rest)

cond_some : {X : Type 0} (t : Bool) (o : Option X) (x : X) → cond t o None ≡ Some x → (t ≡ true) × (o ≡ Some x)
cond_some true o x h = (refl, h)
cond_some false o x h = absurd cc

read_numeral : (n : ℕ) (s rest : List ℕ) → numeral_of s ≡ Some (n, rest) → (ds : List ℕ) × Numeral 18446744073709551616 n ds × (s ≡ ds ++ rest)
read_numeral n [] rest h = absurd cc
read_numeral n (c ∷ cs) rest h =
    let s = c ∷ cs in
    let outer = cond_some (digit c) _ (n, rest) h in
    let inner = cond_some (ltb (value_after 0 s) 18446744073709551616) _ (n, rest) outer.1 in
    let parts = some_pair_parts (value_after 0 s) n (after_digits s) rest inner.1 in
    let front : take_while digit s ≡ c ∷ take_while digit cs = rw take_while-cons (rw outer.0) in (
      take_while digit s,
      record {
        some = λ e. cc;
        digits = lead_digits s;
        value = lead_value 0 s ∙ parts.0;
        fits = subst (λ (i : ℕ). i < 18446744073709551616) parts.0 (ltb-true _ _ inner.0);
      },
      sym (take-append-drop (prefix_len digit s) s) ∙ ap (λ x. take_while digit s ++ x) (lead_rest s ∙ parts.1),
    )

read_operand : (n : ℕ) (s rest : List ℕ) → operand_of s ≡ Some (n, rest) → Spaced n s rest
unfolding operand_of
read_operand n [] rest h = absurd cc
read_operand n (c ∷ cs) rest h =
    let outer = cond_some (eqb c 32) (numeral_of cs) (n, rest) h in
    let inner = read_numeral n cs rest outer.1 in
    (inner.0, inner.1, ap (λ i. i ∷ cs) (eqb-true c 32 outer.0) ∙ ap (λ x. 32 ∷ x) inner.2)

with_some : {X Y : Type 0} (o : Option X) (f : X → Option Y) (y : Y) → with o f ≡ Some y → (x : X) × (o ≡ Some x) × (f x ≡ Some y)
with_some None f y h = absurd cc
with_some (Some x) f y h = (x, refl, h)

whole_some : (cs : List ℕ) (k j : Command) → whole cs k ≡ Some j → (cs ≡ []) × (k ≡ j)
whole_some [] k j h = (refl, cc)
whole_some (c ∷ cs) k j h = absurd cc

read_start : (cs : List ℕ) (k : Command) → start_of cs ≡ Some k → Form (115 ∷ cs) k
read_start cs k h =
    let p = with_some (operand_of cs) _ k h in
    let q = with_some (operand_of p.0.1) _ k p.2 in
    let r = with_some (operand_of q.0.1) _ k q.2 in
    let w = whole_some r.0.1 _ k r.2 in
    let x = read_operand p.0.0 cs p.0.1 p.1 in
    let y = read_operand q.0.0 p.0.1 q.0.1 q.1 in
    let z = read_operand r.0.0 q.0.1 r.0.1 r.1 in
    subst (λ (j : Command). Form (115 ∷ cs) j) w.1
    (x.0, y.0, z.0, x.1, y.1, z.1, ap (λ t. 115 ∷ t) (x.2 ∙ ap (spaced x.0) (y.2 ∙ ap (spaced y.0) (z.2 ∙ ap (spaced z.0) w.0))))

read_balance : (cs : List ℕ) (k : Command) → balance_of cs ≡ Some k → Form (63 ∷ cs) k
read_balance cs k h =
    let p = with_some (operand_of cs) _ k h in
    let t = cond_some (ltb p.0.0 256) _ k p.2 in
    let q = with_some (operand_of p.0.1) _ k t.1 in
    let w = whole_some q.0.1 _ k q.2 in
    let x = read_operand p.0.0 cs p.0.1 p.1 in
    let y = read_operand q.0.0 p.0.1 q.0.1 q.1 in
    let n = x.1 in
    subst (λ (j : Command). Form (63 ∷ cs) j) w.1
    (x.0, y.0, record { some = n.some; digits = n.digits; value = n.value; fits = ltb-true p.0.0 256 t.0 }, y.1, ap (λ t. 63 ∷ t) (x.2 ∙ ap (spaced x.0) (y.2 ∙ ap (spaced y.0) w.0)))

read_sign : (c : ℕ) (cs : List ℕ) (j k : Command) → whole cs j ≡ Some k → Form (c ∷ []) j → Form (c ∷ cs) k
read_sign c cs j k h f =
    let w = whole_some cs j k h in
    subst (λ (i : Command). Form (c ∷ cs) i) w.1 (subst (λ (t : List ℕ). Form (c ∷ t) j) (sym w.0) f)

-- a test on the first byte, with either way out
abbrev Reads : ℕ → List ℕ → Command → Option Command → Type 0
Reads c cs k o = o ≡ Some k → Form (c ∷ cs) k

by_first : (c a : ℕ) (cs : List ℕ) (k : Command) (o p : Option Command) → Reads a cs k o → Reads c cs k p → Reads c cs k (cond (eqb c a) o p)
by_first c a cs k o p yes_way no_way =
    elim (eqb c a) as (λ t. eqb c a ≡ t → Reads c cs k (cond t o p))
    [ true ↦ λ e h. subst (λ (i : ℕ). Form (i ∷ cs) k) (sym (eqb-true c a e)) (yes_way h) | false ↦ λ e h. no_way h ] refl

reads : (line : List ℕ) (k : Command) → command_of line ≡ Some k → Form line k
reads [] k h = absurd cc
reads (c ∷ cs) k h =
    by_first c 115 cs k _ _ (read_start cs k)
    (by_first c 43 cs k _ _ (λ h. read_sign 43 cs Connect k h refl)
    (by_first c 45 cs k _ _ (λ h. read_sign 45 cs Disconnect k h refl)
    (by_first c 63 cs k _ None (read_balance cs k)
    (λ h. absurd cc))))
    h

formed : (line : List ℕ) (k : Command) → Form line k → command_of line ≡ Some k
formed line (Start h m l) f =
    let x = f.0 in
    let y = f.1 in
    let z = f.2 in
    rw (f.6, reads_operand h x (spaced y (spaced z [])) f.3 refl, reads_operand m y (spaced z []) f.4 refl, reads_operand l z [] f.5 tt)
formed line Connect f = rw f
formed line Disconnect f = rw f
formed line (Balance k a) f =
    let x = f.0 in
    let y = f.1 in
    let n = f.2 in
    let wide : Numeral 18446744073709551616 k x = record { some = n.some; digits = n.digits; value = n.value; fits = omega arith } in
    rw (f.4, reads_operand k x (spaced y []) wide refl, lt-ltb k 256 n.fits, reads_operand a y [] f.3 tt)

pub each_form : ReadsEachForm
each_form line k = (reads line k, formed line k)
