use Rattle.std.proofs.Common.{sym, refl}
use Rattle.transacting.proofs.Turns.{coin_is}
use Rattle.transacting.proofs.made_coin.Goals as goal

pub returns : goal.returns
returns c = sym (coin_is (record { value = c.args.value; lock = c.args.lock }) c.args.height c.args.coinbase _ refl refl refl refl)
