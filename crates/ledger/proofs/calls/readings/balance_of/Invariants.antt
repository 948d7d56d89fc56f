use Rattle.std.proofs.Common.{◌≡◌, ◌-◌, ◌*◌, ◌≤◌, length, drop}
use Rattle.std.specs.List.{slice_get}
use Rattle.coinsview.specs.Meaning.{next_in}
use Rattle.ledger.specs.Book.{held_by}
use Rattle.ledger.proofs.Balances.{summed, above}
use Rattle.ledger.proofs.calls.readings.balance_of.Given as goal

-- the coins up to the last one are added up, and the rest stand above it
abbrev pub invariant-loop-at : goal.invariant-loop-at
invariant-loop-at g l =
    let v = g.V.CoinsView in
    let m = v.coins l.initial.view in
    let i = above l.last m in record {
      well : v.ok l.view;
      fixed : v.most l.view ≡ v.most l.initial.view;
      map : v.coins l.view ≡ m;
      next : next_in l.last m ≡ slice_get m i;
      value : held_by l.lock m ≡ summed l.balance (held_by l.lock (drop i m));
      few : l.balance.coins ≤ i;
      small : l.balance.value ≤ 2100000000000000 * i;
    }

abbrev pub decreases-loop-at : goal.decreases-loop-at
decreases-loop-at g l = length (g.V.CoinsView.coins l.initial.view) - above l.last (g.V.CoinsView.coins l.initial.view)
