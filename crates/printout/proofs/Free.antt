-- No line of the printout has an LF.
use Rattle.std.proofs.Common.{◌≡◌, ℕ, zero, suc, ◌/◌, ◌%◌, true, false, cond, eqb, List, [], ◌∷◌, ◌++◌, decimal, refl, arith}
use Rattle.std.proofs.lemmas.Bool.Decides.{nat_tests}
use Rattle.std.proofs.lemmas.List.Folds.{list_all-append}
use Rattle.std.specs.Fmt.{digits, digits_onto, digit_glyph}
use Rattle.refusal.specs.Numbers.{number_of, word_of}
use Rattle.refusal.specs.declared.Reason.{Reason}
use Rattle.refusal.specs.declared.Reason.TheVariants.{Cut}
use Rattle.printout.specs.declared.Line.TheVariants.{Start, Connect, Disconnect, Balance, Refused}
use Rattle.printout.specs.Texts.{lf_free, OneLineEach, ReadsAsPrinted}

both : (a b : List ℕ) → lf_free a ≡ true → lf_free b ≡ true → lf_free (a ++ b) ≡ true
both a b p q = rw (list_all-append, p) q

spelled_free : (k n : ℕ) (acc : List ℕ) → lf_free acc ≡ true → lf_free (digits_onto k 10 false n acc) ≡ true
spelled_free zero n acc h = h
spelled_free (suc k) n acc h =
    let g : lf_free (digit_glyph false (n % 10) ∷ acc) ≡ true = grind (arith, nat_tests) in
    elim (eqb (n / 10) 0) as (λ t. lf_free (cond t (digit_glyph false (n % 10) ∷ acc) (digits_onto k 10 false (n / 10) (digit_glyph false (n % 10) ∷ acc))) ≡ true) [ true ↦ g | false ↦ spelled_free k (n / 10) _ g ]

decimal_free : (n : ℕ) → lf_free (decimal n) ≡ true
unfolding digits
decimal_free n = spelled_free 64 n [] refl

word_free : (x : Reason) → lf_free (word_of x) ≡ true
word_free Cut = refl
word_free _ = refl

-- a number and what follows
after : (n : ℕ) (b : List ℕ) → lf_free b ≡ true → lf_free (decimal n ++ b) ≡ true
after n b h = both (decimal n) b (decimal_free n) h

pub one_line : OneLineEach
one_line Start = refl
one_line (Connect h m s f b) = after h _ (after m _ (after s _ (after f _ (decimal_free b))))
one_line (Disconnect h true) = after h _ refl
one_line (Disconnect h false) = after h _ refl
one_line (Balance k a n v) = after k _ (after a _ (after n _ (decimal_free v)))
one_line (Refused x) = after (number_of x.reason) _ (both (word_of x.reason) _ (word_free x.reason) (after x.first _ (decimal_free x.second)))

pub as_printed : ReadsAsPrinted
unfolding digits
as_printed = (refl, refl, refl, refl, refl, refl)
