use Rattle.std.proofs.Common.{Some, None, arith}
use Rattle.blockform.specs.Kinds.{item}
use Rattle.blockform.specs.Kinds.{item_at, item_end}
use Rattle.blockform.proofs.ItemEnds.{item_ends}
use Rattle.blockform.specs.Readers.{items_of, next_item}
use Rattle.blockbytes.proofs.Steps.{ok_is, times_first, times_taken, list_none, list_taken}
use Rattle.blockform.proofs.Nearer.{nearer}
use Rattle.blockform.proofs.reader.each_item.ItemsIterator.next.Goals as goal

pub returns-then-self-eq0 : goal.returns-then-self-eq0
unfolding items_of
returns-then-self-eq0 c =
    let r = c.args.self.now in
    let e = list_none (item_at r.kind r.block.now) (item_end r.kind r.block.now) r.left r.place c.if-self-eq0.true in
    record { steps = ((e, e), tt); goes = nearer items_of _ _ None tt }

pub item-end-requires : goal.item-end-requires
item-end-requires c =
    let r = c.args.self.now in
    let b = r.block.now in
    ok_is _ _ (times_first (item r.kind b) (item_end r.kind b) (item_ends r.kind b) r.left r.place (omega arith) r.good).0

pub invariant_of-self : goal.invariant_of-self
invariant_of-self c =
    let r = c.args.self.now in
    let b = r.block.now in
    record { few = omega arith; good = times_taken (item r.kind b) (item_end r.kind b) (item_ends r.kind b) r.left r.place _ (omega arith) c.item-end.ensures.end r.good }

pub returns : goal.returns
unfolding items_of next_item
returns c =
    let r = c.args.self.now in
    let b = r.block.now in
    let i = c.item-end.ensures in
    let e = list_taken (item_at r.kind b) (item_end r.kind b) r.left r.place _ _ (omega arith) i.piece i.end in
    record { steps = (e, (i.offset, i.long, i.within)); goes = nearer items_of _ _ (Some _) (_, e) }
