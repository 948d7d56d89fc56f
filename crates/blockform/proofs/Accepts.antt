-- What is read is accepted, and what is refused is not.
use Rattle.std.proofs.Common.{◌≡◌, ℕ, List, Ok, Err, Result, MatchResult}
use Rattle.compact.specs.Compact.{Bytes}
use Rattle.blockbytes.specs.declared.fault.FormFault.{FormFault}
use Rattle.blockbytes.specs.Value.{BlockValue}
use Rattle.blockbytes.specs.Places.{read_block}
use Rattle.blockbytes.specs.Laws.{Accepted}
use Rattle.blockbytes.proofs.Encoding.{read_is_encoded, refused}
use Rattle.blockform.specs.declared.reader.Block.{Block}
use Rattle.blockform.specs.Readers.{block_of}

pub accepts : (b : List ℕ) (r : Result Block FormFault) → Bytes b → MatchResult r (λ k. read_block b ≡ Ok (block_of k)) (λ e. read_block b ≡ Err e) → MatchResult r (λ k. Accepted b (block_of k)) (λ _. (v : BlockValue) → Accepted b v → ⊥)
accepts b (Ok k) y h = read_is_encoded b (block_of k) y h
accepts b (Err e) y h = refused b e h
