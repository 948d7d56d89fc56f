use Rattle.std.proofs.Common.{refl}
use Rattle.blockform.specs.Readers.{block_of, transactions_of, next_transaction, transactions_good}
use Rattle.blockbytes.proofs.Steps.{ok_of, ok_is, block_ok}
use Rattle.blockform.proofs.reader.Block.transactions.Goals as goal

pub bounds-self-64 : goal.bounds-self-64
bounds-self-64 c = let o = ok_of _ c.args.self.now.good in let k = block_ok c.args.self.now.bytes.now o.0 o.1 in k.all.inside

pub invariant_of-result : goal.invariant_of-result
invariant_of-result c =
    let o = ok_of _ c.args.self.now.good in
    let k = block_ok c.args.self.now.bytes.now o.0 o.1 in
    record { few = k.all.few; good = ok_is _ _ k.all.steps }

pub returns : goal.returns
unfolding block_of transactions_of next_transaction
returns c = record { good = transactions_good _; all = refl; offset = refl }
