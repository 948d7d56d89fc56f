-- A script that was written line by line.
use Rattle.std.proofs.Common.{◌≡◌, ℕ, ◌+◌, ◌<◌, ◌≤◌, Bool, true, false, not, cond, eqb, ltb, List, [], ◌∷◌, ◌++◌, length, take, drop, Some, None, sym, refl, ap, ◌∙◌, subst, append_assoc, append-nil, eqb-true, ltb-true, ne_eqb, arith}
use Rattle.std.specs.List.{position, position_or_len, before_first}
use Rattle.std.proofs.lemmas.Option.{same_Some, none-some}
use Rattle.std.proofs.lemmas.Bool.Decides.{nat_tests}
use Rattle.std.proofs.lemmas.List.{take_all, take_rest}
use Rattle.std.proofs.lemmas.List.Sums.{take_while-cons, split_at_first, passes_at_first}
use Rattle.script.specs.Cuts.{lines_from, lines_of, kept, open_end, OneLine, CutsAsWritten, written}

-- the bytes of a line gather before what follows
gather : (bs l s : List ℕ) → OneLine l → lines_from bs (l ++ s) ≡ lines_from (bs ++ l) s
unfolding lines_from
gather bs [] s h = ap (λ x. lines_from x s) (sym (append-nil bs))
gather bs (c ∷ cs) s h = rw (ne_eqb c 10 h.0) (gather (bs ++ (c ∷ [])) cs s h.1 ∙ ap (λ x. lines_from x s) (append_assoc bs (c ∷ []) cs))

one : (l s : List ℕ) → OneLine l → lines_of (l ++ (10 ∷ s)) ≡ kept l ∷ lines_of s
unfolding lines_from
one l s h = gather [] l (10 ∷ s) h

last_one : (l : List ℕ) → OneLine l → lines_of l ≡ open_end l
unfolding lines_from
last_one l h = ap lines_of (sym (append-nil l)) ∙ gather [] l [] h

pub as_written : CutsAsWritten
as_written [] last h k = last_one last k
as_written (l ∷ ls) last h k = ap lines_of (append_assoc l (10 ∷ written ls) last) ∙ one l (written ls ++ last) h.0 ∙ ap (λ x. kept l ∷ x) (as_written ls last h.1 k)

abbrev is_lf : ℕ → Bool
is_lf c = eqb c 10

-- what stands before the first LF is one line
first_line : (s : List ℕ) → OneLine (before_first is_lf s)
first_line [] = tt
first_line (c ∷ cs) =
    let rest = first_line cs in
    rw take_while-cons
    (elim (eqb c 10) as (λ t. eqb c 10 ≡ t → OneLine (cond (not t) (c ∷ before_first is_lf cs) []))
    [ true ↦ λ e. tt | false ↦ λ e. (λ i. grind (arith, nat_tests), rest) ] refl)

pub cut_at : (s : List ℕ) (i : ℕ) → Some i ≡ position is_lf s → (i < length s) × (lines_of s ≡ kept (take i s) ∷ lines_of (drop (i + 1) s))
cut_at s i e =
    let p = position_or_len is_lf s in
    elim (ltb p (length s)) as (λ t. ltb p (length s) ≡ t → Some i ≡ cond t (Some p) None → (i < length s) × (lines_of s ≡ kept (take i s) ∷ lines_of (drop (i + 1) s))) [
      | true ↦ λ t e.
          let l = ltb-true p (length s) t in
          let at : lines_of s ≡ kept (take p s) ∷ lines_of (drop (p + 1) s) =
          ap lines_of (split_at_first is_lf s 0 l ∙ ap (λ c. take p s ++ (c ∷ drop (p + 1) s)) (eqb-true _ 10 (passes_at_first is_lf s 0 l))) ∙ one (take p s) (drop (p + 1) s) (first_line s) in
          rw (same_Some i p e) (l, at)
      | false ↦ λ t e. absurd (none-some i (sym e))
    ] refl e

pub uncut : (s : List ℕ) → None ≡ position is_lf s → lines_of s ≡ open_end s
uncut s e =
    let p = position_or_len is_lf s in
    let l : length s ≤ p = grind (arith, nat_tests, e) in
    last_one s (subst OneLine (take_all p s l) (first_line s))

pub ruleset cuts = (as_written, cut_at, uncut, take_rest)
