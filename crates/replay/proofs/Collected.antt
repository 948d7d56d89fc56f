-- One printed line for each line of the script.
use Rattle.std.proofs.Common.{◌≡◌, ℕ, ◌+◌, List, [], ◌∷◌, ◌++◌, length, Option, sym, ap, ◌∙◌, append_assoc, append-nil, zero-add, arith, length-append}
use Rattle.printout.specs.declared.Line.{Line}
use Rattle.printout.specs.Texts.{line_text}
use Rattle.script.specs.Cuts.{lines_of}
use Rattle.replay.specs.Turns.{texts}

texts_push : (xs : List Line) (x : Line) → texts (xs ++ (x ∷ [])) ≡ texts xs ++ line_text x
texts_push [] x = append-nil (line_text x)
texts_push (y ∷ ys) x = ap (λ t. line_text y ++ t) (texts_push ys x) ∙ sym (append_assoc (line_text y) (texts ys) (line_text x))

-- lines that print a text, as many as n together with those that are left
abbrev pub Collected : List ℕ → List (Option (List ℕ)) → ℕ → Type 0
Collected out left n = (xs : List Line) × (out ≡ texts xs) × (length xs + length left ≡ n)

pub none_yet : (out script rest : List ℕ) → out ≡ [] → rest ≡ script → Collected out (lines_of rest) (length (lines_of script))
none_yet out script rest e f = ([], e, zero-add (length (lines_of rest)) ∙ ap (λ s. length (lines_of s)) f)

pub one_more : (x : Line) (out more : List ℕ) (l : Option (List ℕ)) (left rest : List (Option (List ℕ))) (n : ℕ) → left ≡ l ∷ rest → more ≡ out ++ line_text x → Collected out left n → Collected more rest n
one_more x out more l left rest n e f c =
    let xs = c.0 in
    (xs ++ (x ∷ []), f ∙ ap (λ t. t ++ line_text x) c.1 ∙ sym (texts_push xs x), simp length-append (omega (arith, ap length e, c.2)))

pub all_done : (out : List ℕ) (left : List (Option (List ℕ))) (n : ℕ) → left ≡ [] → Collected out left n → (xs : List Line) × (out ≡ texts xs) × (length xs ≡ n)
all_done out left n e c = (c.0, c.1, omega (arith, ap length e, c.2))
