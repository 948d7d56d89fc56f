use Rattle.std.proofs.Common.{sym}
use Rattle.blockbytes.specs.Places.{transaction_at, transaction_end}
use Rattle.blockform.specs.Readers.{transactions_of}
use Rattle.blockbytes.proofs.Steps.{length_list}
use Rattle.blockform.proofs.reader.Transactions.len.Goals as goal

pub returns : goal.returns
unfolding transactions_of
returns c =
    record { is = sym (length_list (transaction_at c.args.self.now.block.now) (transaction_end c.args.self.now.block.now) c.args.self.now.left c.args.self.now.place); few = c.args.self.now.few }
