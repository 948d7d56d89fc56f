use Rattle.compact.proofs.Laws.{written_is_read, read_is_written, one_encoding, small_is_a_byte, nothing_is_cut, examples}
use Rattle.compact.proofs.compact_sizes.Goals as goal

pub returns : goal.returns
returns c = record { written = written_is_read; read = read_is_written; one = one_encoding; small = small_is_a_byte; nothing = nothing_is_cut; examples = examples }
