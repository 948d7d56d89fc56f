use Rattle.std.proofs.Common.{◌≡◌, ◌+◌, drop, Some, sym, ap, ◌∙◌, arith}
use Rattle.std.specs.List.{slice_get}
use Rattle.coins.specs.declared.coin.Coin.{Coin}
use Rattle.coins.specs.declared.outpoint.Outpoint.{Outpoint}
use Rattle.ledger.specs.Book.{held_by}
use Rattle.ledger.proofs.Balances.{summed, above, above_found, found_above, turn, ended, within, none_past, held_bound, next_there}
use Rattle.ledger.proofs.calls.readings.balance_of.Goals as goal

pub with_coin-balance-requires : goal.with_coin-balance-requires
with_coin-balance-requires g c =
    let v = g.V.CoinsView in
    let l = c.loop-at in
    let inv = l.invariant in
    let m = v.coins c.args.view.now in
    let found : slice_get m (above l.last m) ≡ Some (c.in-Some.at, c.in-Some.coin) = found_above m _ l.last _ _ c.in-Some.ensures.value c.as_ref.ensures.value inv.map inv.next in
    let there = within m (above l.last m) _ found in
    let small = v.small c.args.view.now c.requires in
    let few = v.few c.args.view.now c.requires in
    (omega (arith, inv.few, there, small, few), omega (arith, inv.small, there, small, few))

pub loop-at-preserved : goal.loop-at-preserved
loop-at-preserved g c =
    let v = g.V.CoinsView in
    let l = c.loop-at in
    let inv = l.invariant in
    let m = v.coins c.args.view.now in
    let i = above l.last m in
    let e = c.in-Some.ensures in
    let p : Outpoint × Coin = (c.in-Some.at, c.in-Some.coin) in
    let found : slice_get m i ≡ Some p = found_above m _ l.last _ _ e.value c.as_ref.ensures.value inv.map inv.next in
    let s = v.sorted c.args.view.now c.requires in
    let here = above_found m i p s found in
    let b = c.with_coin-balance.ensures in
    let bound = held_bound c.args.lock.now p.1 l.balance i inv.few inv.small in
    record {
      well = e.well;
      fixed = e.fixed ∙ inv.fixed;
      map = e.map ∙ inv.map;
      next = next_there m i p s found ∙ ap (slice_get m) (sym here);
      value = turn c.args.lock.now m i p l.balance found inv.value ∙ ap (λ x. summed x (held_by c.args.lock.now (drop (i + 1) m))) (sym b) ∙ ap (λ n. summed c.with_coin-balance.result (held_by c.args.lock.now (drop n m))) (sym here);
      few = omega (arith, bound.0, ap (λ x. x.coins) b, here);
      small = omega (arith, bound.1, ap (λ x. x.value) b, here);
    }

pub loop-at-smaller : goal.loop-at-smaller
loop-at-smaller g c =
    let v = g.V.CoinsView in
    let l = c.loop-at in
    let inv = l.invariant in
    let m = v.coins c.args.view.now in
    let i = above l.last m in
    let p : Outpoint × Coin = (c.in-Some.at, c.in-Some.coin) in
    let found : slice_get m i ≡ Some p = found_above m _ l.last _ _ c.in-Some.ensures.value c.as_ref.ensures.value inv.map inv.next in
    let here = above_found m i p (v.sorted c.args.view.now c.requires) found in
    let there = within m i p found in
    omega (arith, here, there)

pub returns : goal.returns
returns g c =
    let v = g.V.CoinsView in
    let l = c.loop-at in
    let inv = l.invariant in
    let m = v.coins c.args.view.now in
    let i = above l.last m in
    let e = c.in_default.ensures in
    let none = found_above m _ l.last _ _ e.value c.as_ref.ensures.value inv.map inv.next in
    record {
      well = e.well;
      fixed = e.fixed ∙ inv.fixed;
      map = e.map ∙ inv.map;
      value = ended c.args.lock.now m i l.balance (none_past m i none) inv.value;
    }
