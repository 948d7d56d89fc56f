use Rattle.std.proofs.Common.{arith}
use Rattle.std.proofs.lemmas.Bool.Decides.{Decides-at}
use Rattle.coins.proofs.Ordered.{order_decides}
use Rattle.coins.proofs.outpoint.OutpointPartialEq.eq.Goals as goal

pub returns-then-self-other-clause-decides : goal.returns-then-self-other-clause-decides
returns-then-self-other-clause-decides c = Decides-at _ _ (grind arith) (order_decides c.args.self.now c.args.other.now)
