use Rattle.blockbytes.proofs.Encoding.{read_is_encoded, encoded_is_read, one_block}
use Rattle.blockbytes.proofs.block_encoding.Goals as goal

pub returns : goal.returns
returns c = record { read = read_is_encoded; written = encoded_is_read; one = one_block }
