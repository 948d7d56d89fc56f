use Rattle.std.proofs.Common.{arith}
use Rattle.blockform.specs.Readers.{block_of}
use Rattle.blockbytes.proofs.Steps.{ok_of, block_ok}
use Rattle.blockform.proofs.reader.Block.previous.Goals as goal

pub array_at-requires : goal.array_at-requires
array_at-requires c = let o = ok_of _ c.args.self.now.good in let k = block_ok c.args.self.now.bytes.now o.0 o.1 in omega (arith, k.head)

pub returns : goal.returns
unfolding block_of
returns c = c.array_at.ensures
