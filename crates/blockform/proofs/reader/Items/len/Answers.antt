use Rattle.std.proofs.Common.{sym}
use Rattle.blockform.specs.Kinds.{item_at, item_end}
use Rattle.blockform.specs.Readers.{items_of}
use Rattle.blockbytes.proofs.Steps.{length_list}
use Rattle.blockform.proofs.reader.Items.len.Goals as goal

pub returns : goal.returns
unfolding items_of
returns c =
    record { is = sym (length_list (item_at c.args.self.now.kind c.args.self.now.block.now) (item_end c.args.self.now.kind c.args.self.now.block.now) c.args.self.now.left c.args.self.now.place); few = c.args.self.now.few }
