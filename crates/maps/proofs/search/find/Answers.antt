use Rattle.std.proofs.Common.{◌≡◌, ℕ, ◌+◌, ◌-◌, ◌/◌, ◌<◌, length, get_or, Less, sym, subst, arith}
use Rattle.maps.specs.Keyed.{outpoints}
use Rattle.maps.specs.Maps.{place}
use Rattle.maps.proofs.Laws.{place_within}
use Rattle.maps.proofs.Searches.{compared, less_here, found, missing}
use Rattle.maps.proofs.search.find.Goals as goal

pub loop-low-init : goal.loop-low-init
loop-low-init g c = (omega arith, place_within outpoints _ _, omega arith, λ h. absurd (omega arith))

pub loop-low-preserved-in-Greater : goal.loop-low-preserved-in-Greater
loop-low-preserved-in-Greater g c =
    let l = c.loop-low in
    let mid : l.low + (l.high - l.low) / 2 < length c.args.cells.now = omega arith in
    let p = compared outpoints _ _ _ _ mid _ c.requires c.in-Greater.ensures in
    (omega arith, l.invariant.1, l.invariant.2, l.invariant.3)

pub loop-low-preserved : goal.loop-low-preserved
loop-low-preserved g c =
    let l = c.loop-low in
    let mid : l.low + (l.high - l.low) / 2 < length c.args.cells.now = omega arith in
    let p = compared outpoints _ _ _ _ mid _ c.requires c.in-Less.ensures in
    (l.invariant.0, p, omega arith, λ h. less_here outpoints _ _ _ _ mid c.in-Less.ensures)

pub returns-in-Equal : goal.returns-in-Equal
returns-in-Equal g c =
    let l = c.loop-low in
    let mid : l.low + (l.high - l.low) / 2 < length c.args.cells.now = omega arith in
    found outpoints _ _ _ _ mid c.requires c.in-Equal.ensures

pub returns : goal.returns
returns g c =
    let l = c.loop-low in
    let here : place outpoints c.args.k.now c.args.cells.now ≡ l.low = omega arith in
    let top : l.high ≡ l.low = omega arith in
    let P = λ (j : ℕ). j < length c.args.cells.now → (d : _) → outpoints.cmp c.args.k.now (get_or c.args.cells.now j d).0 ≡ Less in
    (sym here, omega arith, missing outpoints _ _ _ here (omega arith) (subst P top l.invariant.3))
