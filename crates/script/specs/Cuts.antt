-- The lines of a script, each ended by an LF.
use Rattle.std.specs.Prelude.{◌≡◌, ℕ, cond, List, [], ◌∷◌, ◌++◌, map, length, Some, None, Option, ◌==◌, ◌≢◌, nat_le}
use Rattle.std.specs.Borrow.{Bor}

-- the bytes of a line, if they are at most 80
abbrev pub kept : List ℕ → Option (List ℕ)
kept bs = cond (nat_le (length bs) 80) (Some bs) None

-- what is left at the end: nothing, or a line with no LF
abbrev pub open_end : List ℕ → List (Option (List ℕ))
open_end [] = []
open_end (c ∷ cs) = None ∷ []

-- the lines of s, where bs stands before s in its first line
unfoldable pub lines_from : List ℕ → List ℕ → List (Option (List ℕ))
lines_from bs [] = open_end bs
lines_from bs (c ∷ cs) = cond (c == 10) (kept bs ∷ lines_from [] cs) (lines_from (bs ++ (c ∷ [])) cs)

abbrev pub lines_of : List ℕ → List (Option (List ℕ))
lines_of s = lines_from [] s

abbrev pub held : Option (Bor (List ℕ)) → Option (List ℕ)
held None = None
held (Some r) = Some r.now

-- no byte of bs is an LF
abbrev pub OneLine : List ℕ → Type 0
OneLine [] = Unit {0}
OneLine (c ∷ cs) = (c ≢ 10) × OneLine cs

abbrev pub AllLines : List (List ℕ) → Type 0
AllLines [] = Unit {0}
AllLines (l ∷ ls) = OneLine l × AllLines ls

-- lines, with an LF after each
abbrev pub written : List (List ℕ) → List ℕ
written [] = []
written (l ∷ ls) = l ++ (10 ∷ written ls)

-- A script that was written line by line, with or without a last line that has no LF, is cut into just these lines.
abbrev pub CutsAsWritten : Type 0
CutsAsWritten = (ls : List (List ℕ)) (last : List ℕ) → AllLines ls → OneLine last → lines_of (written ls ++ last) ≡ map kept ls ++ open_end last
