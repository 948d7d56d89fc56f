use Rattle.std.proofs.Common.{◌≡◌, ◌≤◌, List, [], ◌∷◌, length, refl, arith}
use Rattle.ledger.proofs.Ledger.start.Goals as goal

none : {X : Type 0} (xs : List X) → length xs ≤ 0 → xs ≡ []
none [] h = refl
none (x ∷ xs) h = absurd (omega arith)

pub returns-clause-begins : goal.returns-clause-begins
returns-clause-begins g c = λ h.
    let v = g.V.CoinsView in
    let t = c.in_ok-terms.ensures in
    record {
      active = record { halving = t.1; maturity = t.2; last = t.3; tip = refl; height = refl; kept = refl };
      room = refl;
      opens = refl;
      coins = none _ (omega (arith, c.count.ensures, c.if-count-gt0.false));
      accepted = tt;
      undo = c.keep.ensures;
    }
