-- The refusal that each fault of a compact size is.
use Rattle.refusal.specs.declared.Refusal.{Refusal}
use Rattle.refusal.specs.declared.Reason.TheVariants as reason
use Rattle.refusal.specs.Placed.{placed}
use Rattle.compact.specs.declared.SizeFault.{SizeFault}
use Rattle.compact.specs.declared.SizeFault.TheVariants.{Cut, LongForm}
use Rattle.compact.specs.declared.ShortBuffer.{ShortBuffer}

-- bytes that no number is read from; the place is their first
abbrev pub size_refusal : SizeFault → Refusal
size_refusal Cut = placed reason.Cut 0 0
size_refusal LongForm = placed reason.LongForm 0 0

-- a buffer with fewer bytes than the number's form
abbrev pub short_refusal : ShortBuffer → Refusal
short_refusal b = placed reason.Short 0 0
