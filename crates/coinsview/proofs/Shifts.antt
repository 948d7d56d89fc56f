-- Lists of which a part was copied by one place, and then an element set or the last one left out.
use Rattle.std.proofs.Common.{◌≡◌, ℕ, ◌+◌, ◌-◌, ◌<◌, ◌≤◌, List, length, take, set, ◌∙◌, arith}
use Rattle.std.specs.List.{CopiedTo, SameBelow, insert, remove}
use Rattle.std.proofs.lemmas.List.{length-set, length-take-le, get_or-take, get_or-set_same, get_or-set_other, same_lists}
use Rattle.std.proofs.lemmas.Bool.{cases_eq}
use Rattle.std.proofs.lemmas.List.Edits.{length-insert, get_or-insert_below, get_or-insert_at, get_or-insert_above, length-remove, get_or-remove_below, get_or-remove_above}

module _ {X : Type 0} (old new : List X) (used at : ℕ) (long : length new ≡ length old) where
  -- the used elements from `at` on went up by one place, and x came there
  pub opened : (x : X) → at ≤ used → used < length old → CopiedTo old new at (at + 1) (used - at) → SameBelow old new (at + 1) → take (used + 1) (set new at x) ≡ insert (take used old) at x
  opened x p q moved low =
      let n = set new at x in
      let ys = take used old in
      let wide : length n ≡ length old = length-set new at x ∙ long in
      let fits : used + 1 ≤ length n = omega arith in
      let len : length ys ≡ used = length-take-le used old (omega arith) in
      let le : at ≤ length ys = omega arith in
      let short : length (take (used + 1) n) ≡ used + 1 = length-take-le (used + 1) n fits in
      same_lists (take (used + 1) n) (insert ys at x) (short ∙ (omega (arith, length-insert ys at x le)))
      (λ k d h.
      let under : k < used + 1 = omega arith in
      let a = cases_eq k at in
      let t = get_or-take (used + 1) n k d under in
      let same = get_or-set_same new at x d (omega (arith, long)) in
      let other = get_or-set_other new at k x d in
      let lo = λ (b : k < at + 1). low k d b in
      let one : at < k → at + (k - (at + 1)) ≡ k - 1 = λ b. omega arith in
      let hi = λ (b : at + 1 ≤ k) (e : k < (at + 1) + (used - at)). moved k d b e in
      let below = λ (b : k < at). get_or-insert_below ys at x d k b le in
      let here = get_or-insert_at ys at x d le in
      let above = λ (b : at ≤ k - 1). get_or-insert_above ys at x d (k - 1) b le in
      let ty = get_or-take used old k d in
      let tz = get_or-take used old (k - 1) d in
      let next : at < k → (k - 1) + 1 ≡ k = λ b. omega arith in
      grind arith)

  -- the used elements after `at` came down by one place
  pub closed : at < used → used ≤ length old → CopiedTo old new (at + 1) at (used - (at + 1)) → SameBelow old new at → take (used - 1) new ≡ remove (take used old) at
  closed p q moved low =
      let ys = take used old in
      let len : length ys ≡ used = length-take-le used old q in
      let le : at < length ys = omega arith in
      let fits : used - 1 ≤ length new = omega (arith, long) in
      let short : length (take (used - 1) new) ≡ used - 1 = length-take-le (used - 1) new fits in
      same_lists (take (used - 1) new) (remove ys at) (short ∙ (omega (arith, length-remove ys at le)))
      (λ k d h.
      let under : k < used - 1 = omega arith in
      let t = get_or-take (used - 1) new k d under in
      let lo = low k d in
      let one : at ≤ k → (at + 1) + (k - at) ≡ k + 1 = λ b. omega arith in
      let mi = moved k d in
      let below = λ (b : k < at). get_or-remove_below ys at d k b le in
      let above = λ (b : at ≤ k). get_or-remove_above ys at d k b le in
      let ty = get_or-take used old k d in
      let tz = get_or-take used old (k + 1) d in
      grind arith)
