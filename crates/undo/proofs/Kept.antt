-- The entries of the newest blocks, by the marks from the newest on.
use Rattle.std.proofs.Common.{◌≡◌, ℕ, suc, ◌+◌, ◌<◌, true, false, List, [], ◌∷◌, ◌++◌, reverse, length, get_or, take, drop, sym, refl, ap, ◌∙◌, append_assoc, append-nil, add-one, drop-cons, arith}
use Rattle.std.specs.List.{All, AllWithin, HoldsAt}
use Rattle.std.proofs.lemmas.List.{reverse-append, take-append-drop, drop-append-le, take-append-le, get_or-drop, length-drop}
use Rattle.std.proofs.lemmas.List.Elements.{All-head, All-tail}
use Rattle.undo.specs.declared.Record.{Record}
use Rattle.undo.specs.declared.Record.TheVariants.{Mark}
use Rattle.undo.specs.Entries.{mark, newest}

abbrev Unmarked : Record → Type 0
Unmarked r = mark r ≡ false

moved : (x : Record) (xs ys : List Record) → reverse (x ∷ xs) ++ ys ≡ reverse xs ++ (x ∷ ys)
moved x xs ys = ap (λ zs. zs ++ ys) (reverse-append (x ∷ []) xs) ∙ append_assoc (reverse xs) (x ∷ []) ys

-- entries without a mark are passed
pub newest_over : (n : ℕ) (xs ys : List Record) → All Unmarked xs → newest (suc n) (reverse xs ++ ys) ≡ reverse xs ++ newest (suc n) ys
newest_over n [] ys h = refl
newest_over n (x ∷ xs) ys h =
    let here : newest (suc n) (x ∷ ys) ≡ x ∷ newest (suc n) ys = rw (All-head Unmarked x xs h) in
    ap (newest (suc n)) (moved x xs ys)
    ∙ newest_over n xs (x ∷ ys) (All-tail Unmarked x xs h)
    ∙ ap (λ zs. reverse xs ++ zs) here
    ∙ sym (moved x xs (newest (suc n) ys))

-- and the last mark ends a block
pub newest_at : (n i : ℕ) (xs : List Record) → i < length xs → HoldsAt (λ r. mark r ≡ true) xs i → AllWithin Unmarked xs (i + 1) (length xs) → newest (suc n) (reverse xs) ≡ reverse (drop i xs) ++ newest n (reverse (take i xs))
newest_at n i xs l m u =
    let r = get_or xs i (Mark []) in
    let front = take i xs in
    let back = drop (i + 1) xs in
    let rest : drop i xs ≡ r ∷ back = drop-cons xs i (Mark []) l ∙ ap (λ k. r ∷ drop k xs) (sym (add-one i)) in
    let here : newest (suc n) (r ∷ reverse front) ≡ r ∷ newest n (reverse front) = rw (m (Mark [])) in
    let bare : All Unmarked back = λ k d h. rw get_or-drop (u (i + 1 + k) d (omega arith) (omega (arith, length-drop (i + 1) xs))) in
    ap (λ zs. newest (suc n) (reverse zs)) (sym (take-append-drop i xs) ∙ ap (λ zs. front ++ zs) rest)
    ∙ ap (newest (suc n)) (reverse-append front (r ∷ back) ∙ moved r back (reverse front))
    ∙ newest_over n back (r ∷ reverse front) bare
    ∙ ap (λ zs. reverse back ++ zs) here
    ∙ sym (moved r back (newest n (reverse front)))
    ∙ ap (λ zs. reverse zs ++ newest n (reverse front)) (sym rest)

-- what is passed stands before what is left
module _ (blocks at left n : ℕ) (all : List Record) (one : left ≡ suc n) (passed : newest blocks (reverse all) ≡ reverse (drop at all) ++ newest left (reverse (take at all))) where
  pub passed_more : (i : ℕ) → (i < length (take at all)) × HoldsAt (λ r. mark r ≡ true) (take at all) i × AllWithin Unmarked (take at all) (i + 1) (length (take at all)) → newest blocks (reverse all) ≡ reverse (drop i all) ++ newest n (reverse (take i all))
  passed_more i h =
      let xs = take at all in
      let ys = drop at all in
      let whole : xs ++ ys ≡ all = take-append-drop at all in
      let later : drop i xs ++ ys ≡ drop i all = sym (drop-append-le i xs ys (omega arith)) ∙ ap (drop i) whole in
      let sooner : take i xs ≡ take i all = sym (take-append-le i xs ys (omega arith)) ∙ ap (take i) whole in
      passed
      ∙ ap (λ k. reverse ys ++ newest k (reverse xs)) one
      ∙ ap (λ zs. reverse ys ++ zs) (newest_at n i xs h.0 h.1 h.2)
      ∙ sym (append_assoc (reverse ys) (reverse (drop i xs)) (newest n (reverse (take i xs))))
      ∙ ap (λ zs. zs ++ newest n (reverse (take i xs))) (sym (reverse-append (drop i xs) ys) ∙ ap reverse later)
      ∙ ap (λ zs. reverse (drop i all) ++ newest n (reverse zs)) sooner

  pub passed_all : All Unmarked (take at all) → newest blocks (reverse all) ≡ reverse all
  passed_all u =
      let xs = take at all in
      let ys = drop at all in
      passed
      ∙ ap (λ k. reverse ys ++ newest k (reverse xs)) one
      ∙ ap (λ zs. reverse ys ++ newest (suc n) zs) (sym (append-nil (reverse xs)))
      ∙ ap (λ zs. reverse ys ++ zs) (newest_over n xs [] u ∙ append-nil (reverse xs))
      ∙ sym (reverse-append xs ys)
      ∙ ap reverse (take-append-drop at all)
