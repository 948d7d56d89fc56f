-- The refusal that each fault of a block's form, of a block file and of a buffer is.
use Rattle.refusal.specs.declared.Refusal.{Refusal}
use Rattle.refusal.specs.declared.Reason.TheVariants as reason
use Rattle.refusal.specs.Placed.{placed}
pub use Rattle.blockbytes.specs.Faults.{form_refusal}
pub use Rattle.blockfile.specs.Faults.{file_refusal, peek_refusal}

-- a buffer too short for a compact size
abbrev pub short_refusal : Refusal
short_refusal = placed reason.Short 0 0
