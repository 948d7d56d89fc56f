use Rattle.std.proofs.Common.{◌≡◌, ℕ, ◌<◌, ◌≤◌, length, Some, None, Ok, Err, Result, sym, ap, ◌∙◌, arith}
use Rattle.coins.specs.declared.coin.Coin.{Coin}
use Rattle.coins.specs.declared.outpoint.Outpoint.{Outpoint}
use Rattle.maps.specs.Maps.{Sorted}
use Rattle.maps.specs.Keyed.{outpoints}
use Rattle.maps.proofs.Laws.{look_insert_same, look_remove_same, length_remove, remove_insert, remove_absent}
use Rattle.coinsview.specs.Meaning.{Coins, coin_at, without, put_answer, put_map}
use Rattle.coinsview.proofs.Puts.{put_yes}
use Rattle.coinsview.specs.declared.fault.ViewFault.{ViewFault}
use Rattle.views.proofs.example.spend_and_answer.Goals as goal

-- a put where there was no coin, granted or refused, and then a take
there_and_back : (r : Result Unit ViewFault) (k : Outpoint) (c : Coin) (m : Coins) → coin_at k m ≡ None → without k (put_map r k c m) ≡ m
there_and_back (Ok u) k c m h = remove_insert outpoints k c m h
there_and_back (Err f) k c m h = remove_absent outpoints k m h

-- where a coin was taken, the put of another is granted
replaced : (n : ℕ) (k : Outpoint) (c : Coin) (m : Coins) → Sorted outpoints m → length m ≤ n → coin_at k m ≡ Some c → put_answer n k (without k m) ≡ Ok tt
replaced n k c m s l h =
    let gone : coin_at k (without k m) ≡ None = look_remove_same outpoints k m s in
    let less : length (without k m) < n = omega (arith, length_remove outpoints k c m h) in
    sym (put_yes n k (without k m) gone less)

pub returns : goal.returns
returns g c =
    let v = g.V.CoinsView in
    let s = c.args.view.now in
    let k = c.args.at.now in
    let m = v.coins s in
    let other = c.args.other in
    let rows = v.sorted s c.requires in
    let gone : coin_at k (without k m) ≡ None = look_remove_same outpoints k m rows in
    let t = c.take-first.ensures in
    let p = c.put-put.ensures in
    let u = c.take-second.ensures in
    let answered : c.put-put.result ≡ put_answer (v.most s) k (without k m) = p.value ∙ ap (λ n. put_answer n k (v.coins c.take-first.new.self)) t.fixed ∙ ap (put_answer (v.most s) k) t.map in
    let there : v.coins c.put-put.new.self ≡ put_map c.put-put.result k other (without k m) = p.map ∙ ap (put_map c.put-put.result k other) t.map in
    let found : c.take-second.result ≡ coin_at k (put_map c.put-put.result k other (without k m)) = u.value ∙ ap (coin_at k) there in
    let left : v.coins c.take-second.new.self ≡ without k m = u.map ∙ ap (without k) there ∙ there_and_back c.put-put.result k other (without k m) gone in
    let bottom = c.flush.ensures.bottom ∙ left in
    record {
      well = c.flush.ensures.well;
      fixed = c.flush.ensures.fixed ∙ u.fixed ∙ p.fixed ∙ t.fixed;
      first = t.value;
      put = answered;
      second = found;
      edge = λ coin h.
          let yes : c.put-put.result ≡ Ok tt = answered ∙ replaced (v.most s) k coin m rows (v.few s c.requires) h in
          let first : c.take-first.result ≡ Some coin = t.value ∙ h in
          let second : c.take-second.result ≡ Some other = found ∙ ap (λ r. coin_at k (put_map r k other (without k m))) yes ∙ look_insert_same outpoints k other (without k m) in
          cc;
      map = c.flush.ensures.map ∙ left;
      bottom = bottom;
      none = ap (coin_at k) bottom ∙ gone;
    }
