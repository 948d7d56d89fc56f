use Rattle.std.proofs.Common.{rules}
use Rattle.connecting.proofs.Tests.{reads}
use Rattle.checking.proofs.check_coinbase.Goals as goal

pub returns : goal.returns
returns c = record { is = λ v h. let r = reads c.args.tx.now v h in search rules; few = c.check_outputs.ensures.few }
