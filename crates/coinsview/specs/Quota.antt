-- A quota over a view with the meaning v: the same maps, and a capacity of its own.
use Rattle.std.specs.Prelude.{◌≤◌, length}
use Rattle.std.proofs.Common.{le_trans}
use Rattle.std.proofs.Props.{props}
use Rattle.coinsview.specs.declared.quota.Quota.{Quota}
use Rattle.coinsview.specs.declared.view.CoinsView.{Ghosts}

pub record QuotaOk {B : Type 0} (v : Ghosts B) (q : Quota B) : Type 0 where
  pub below : v.ok q.below
  pub within : q.limit ≤ v.most q.below
  pub few : length (v.coins q.below) ≤ q.limit

-- a quota's being in order has one proof at most, where the view's below has
pub quota_single : {B : Type 0} (v : Ghosts B) → ((b : B) → IsProp (v.ok b)) → (q : Quota B) → IsProp (QuotaOk v q)
quota_single v single q = Prim.hlevel (props, single q.below)

abbrev pub quota_view : {B : Type 0} → Ghosts B → Ghosts (Quota B)
quota_view v = record {
  ok = QuotaOk v;
  most = λ q. q.limit;
  coins = λ q. v.coins q.below;
  bottom = λ q. v.bottom q.below;
  sorted = λ q h. v.sorted q.below h.below;
  few = λ q h. h.few;
  small = λ q h. le_trans h.within (v.small q.below h.below);
}
