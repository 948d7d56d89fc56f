-- The text of each line of the printout.
use Rattle.std.specs.Prelude.{◌≡◌, ℕ, Bool, true, false, not, List, [], ◌∷◌, ◌++◌, codes, decimal, ◌==◌}
use Rattle.std.specs.List.{list_all}
use Rattle.refusal.specs.Numbers.{number_of, word_of}
use Rattle.refusal.specs.declared.Reason.TheVariants as reason
use Rattle.refusal.specs.declared.Refusal.{Refusal}
use Rattle.printout.specs.declared.Line.{Line}
use Rattle.printout.specs.declared.Line.TheVariants.{Start, Connect, Disconnect, Balance, Refused}

abbrev pub clean_word : Bool → List ℕ
clean_word true = codes "clean"
clean_word false = codes "unclean"

-- number, word and place
abbrev pub refusal_text : Refusal → List ℕ
refusal_text x = codes "refused " ++ (decimal (number_of x.reason) ++ (codes " " ++ (word_of x.reason ++ (codes " " ++ (decimal x.first ++ (codes " " ++ decimal x.second))))))

abbrev pub text_of : Line → List ℕ
text_of Start = codes "start"
text_of (Connect h m s f b) = codes "connect " ++ (decimal h ++ (codes " made " ++ (decimal m ++ (codes " spent " ++ (decimal s ++ (codes " fee " ++ (decimal f ++ (codes " burned " ++ decimal b))))))))
text_of (Disconnect h c) = codes "disconnect " ++ (decimal h ++ (codes " " ++ clean_word c))
text_of (Balance k a n v) = codes "balance " ++ (decimal k ++ (codes " " ++ (decimal a ++ (codes " coins " ++ (decimal n ++ (codes " value " ++ decimal v))))))
text_of (Refused x) = refusal_text x

-- with the LF that ends it
abbrev pub line_text : Line → List ℕ
line_text x = text_of x ++ (10 ∷ [])

-- The six lines of a block connected, one refused, a balance, and a block taken back.
abbrev pub ReadsAsPrinted : Type 0
ReadsAsPrinted =
    (text_of Start ≡ codes "start") ×
    (text_of (Connect 1 1 0 0 0) ≡ codes "connect 1 made 1 spent 0 fee 0 burned 0") ×
    (text_of (Refused (record { reason = reason.Claim; first = 0; second = 0 })) ≡ codes "refused 14 claim 0 0") ×
    (text_of (Balance 1 77 1 5000000000) ≡ codes "balance 1 77 coins 1 value 5000000000") ×
    (text_of (Disconnect 1 true) ≡ codes "disconnect 1 clean") ×
    (text_of (Refused (record { reason = reason.Nothing; first = 0; second = 0 })) ≡ codes "refused 40 nothing 0 0")

-- no byte is an LF
abbrev pub lf_free : List ℕ → Bool
lf_free bs = list_all (λ c. not (c == 10)) bs

-- Each line of the printout is one line.
abbrev pub OneLineEach : Type 0
OneLineEach = (x : Line) → lf_free (text_of x) ≡ true
