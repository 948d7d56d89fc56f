use Rattle.std.proofs.Common.{◌≡◌, Ok, Err, arith, rules, MatchResult}
use Rattle.blockbytes.specs.declared.fault.FormFault.TheVariants.{OverSize}
use Rattle.blockbytes.specs.Places.{read_block, block_at}
use Rattle.blockform.specs.Readers.{block_of, BlockGood}
use Rattle.blockbytes.proofs.Encoding.{refused, read_is_encoded}
use Rattle.blockform.proofs.Accepts.{accepts}
use Rattle.blockform.proofs.reader.Block.read.Goals as goal

pub returns-then-bytes-gt-MAX_BLOCK : goal.returns-then-bytes-gt-MAX_BLOCK
unfolding read_block
returns-then-bytes-gt-MAX_BLOCK c =
    let b = c.args.bytes.now in
    record { good = search rules; reads = search rules; accepts = refused b OverSize (search rules) }

pub returns-in_err-block : goal.returns-in_err-block
unfolding read_block
returns-in_err-block c =
    let b = c.args.bytes.now in
    let h : MatchResult c.from_residual.result (λ k. read_block b ≡ Ok (block_of k)) (λ e. read_block b ≡ Err e) = search rules in
    record { good = search rules; reads = h; accepts = accepts b c.from_residual.result (λ i. omega (arith, c.type_inv.bytes i)) h }

pub returns : goal.returns
unfolding read_block block_of BlockGood
returns c =
    let b = c.args.bytes.now in
    record { good = search rules; reads = search rules; accepts = read_is_encoded b (block_at b) (λ i. omega (arith, c.type_inv.bytes i)) (search rules) }
