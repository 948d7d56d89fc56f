-- The block of a record is a part of the file. Assumes nothing.
use Rattle.std.proofs.Common.{◌≡◌, ℕ, ◌+◌, ◌≤◌, Bool, true, false, cond, ltb, leb, List, length, take, drop, Ok, Err, sym, refl, ap, ◌∙◌, arith, length-drop, ltb-false}
use Rattle.std.proofs.lemmas.List.{drop-take, length-take-le}
use Rattle.compact.specs.Compact.{four_at}
use Rattle.blockfile.specs.declared.fault.FileFault.{FileFault}
use Rattle.blockfile.specs.declared.fault.FileFault.TheVariants.{Cut, Ended}
use Rattle.blockform.specs.File.{record_at}
use Rattle.ledger.specs.Runs.{part}

passed : (a b : Bool) (e f : FileFault) (x y : List ℕ) → cond a (Err e) (cond b (Err f) (Ok x)) ≡ Ok y → (b ≡ false) × (x ≡ y)
passed true b e f x y h = absurd (let z : ◌≡◌ {A = ℕ} 0 1 = cc in omega arith)
passed false true e f x y h = absurd (let z : ◌≡◌ {A = ℕ} 0 1 = cc in omega arith)
passed false false e f x y h = (refl, cc)

pub record_part : (file : List ℕ) (p : ℕ) (b : List ℕ) → record_at file p ≡ Ok b → part (p + 4) (p + 4 + length b) file ≡ b
record_part file p b h =
    let n = four_at file p in
    let e = passed (leb (length file) p) (ltb (length file) (p + 4 + n)) Ended (Cut p) (take n (drop (p + 4) file)) b h in
    let within : p + 4 + n ≤ length file = ltb-false (length file) (p + 4 + n) e.0 in
    let long : length b ≡ n = ap length (sym e.1) ∙ length-take-le n (drop (p + 4) file) (omega (arith, length-drop (p + 4) file)) in
    ap (λ k. drop (p + 4) (take (p + 4 + k) file)) long ∙ drop-take (p + 4) n file ∙ e.1
