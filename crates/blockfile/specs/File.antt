-- A block file: records of a 4-byte length and a block.
use Rattle.std.specs.Prelude.{ℕ, ◌+◌, cond, List, length, take, drop, Ok, Err, Result, nat_le, nat_lt}
use Rattle.compact.specs.Compact.{four_at}
use Rattle.blockbytes.specs.declared.fault.FormFault.TheVariants as form
use Rattle.blockfile.specs.declared.fault.FileFault.{FileFault}
use Rattle.blockfile.specs.declared.fault.FileFault.TheVariants.{Cut, Ended}
use Rattle.blockfile.specs.declared.fault.PeekFault.{PeekFault}
use Rattle.blockfile.specs.declared.fault.PeekFault.TheVariants as peek
use Rattle.blockbytes.specs.Places.{id_at}

-- the block of the record at a place, or why there is none
abbrev pub record_at : List ℕ → ℕ → Result (List ℕ) FileFault
record_at file at = cond (nat_le (length file) at) (Err Ended) (cond (nat_lt (length file) (at + 4 + four_at file at)) (Err (Cut at)) (Ok (take (four_at file at) (drop (at + 4) file))))

-- the two identifiers at the front of a block
abbrev pub ids : List ℕ → Result (List ℕ × List ℕ) PeekFault
ids b = cond (nat_lt (length b) 32) (Err (peek.Form (form.Cut 0))) (cond (nat_lt (length b) 64) (Err (peek.Form (form.Cut 32))) (Ok (id_at b 0, id_at b 32)))

abbrev pub ids_of : Result (List ℕ) FileFault → Result (List ℕ × List ℕ) PeekFault
ids_of (Ok b) = ids b
ids_of (Err e) = Err (peek.File e)

-- what a peek at a place answers
abbrev pub peek_at : List ℕ → ℕ → Result (List ℕ × List ℕ) PeekFault
peek_at file at = ids_of (record_at file at)
