use Rattle.std.proofs.Common.{rules}
use Rattle.connecting.proofs.Tests.{reads}
use Rattle.checking.proofs.check_spending.Goals as goal

pub returns-then-is_coinbase : goal.returns-then-is_coinbase
returns-then-is_coinbase c = record { is = λ v h. let r = reads c.args.tx.now v h in search rules; few = tt }

pub returns-in_err-made : goal.returns-in_err-made
returns-in_err-made c = record { is = λ v h. let r = reads c.args.tx.now v h in search rules; few = search rules }

pub returns-in_err-check_inputs : goal.returns-in_err-check_inputs
returns-in_err-check_inputs c = record { is = λ v h. let r = reads c.args.tx.now v h in search rules; few = search rules }

pub returns : goal.returns
returns c = record { is = λ v h. let r = reads c.args.tx.now v h in search rules; few = search rules }
