-- The refusal that each fault of a block's form is.
use Rattle.refusal.specs.declared.Refusal.{Refusal}
use Rattle.refusal.specs.declared.Reason.TheVariants as reason
use Rattle.refusal.specs.Placed.{placed}
use Rattle.blockbytes.specs.declared.fault.FormFault.{FormFault}
use Rattle.blockbytes.specs.declared.fault.FormFault.TheVariants.{Cut, LongForm, OverCount, Tail, OverSize}

abbrev pub form_refusal : FormFault → Refusal
form_refusal (Cut at) = placed reason.Cut at 0
form_refusal (LongForm at) = placed reason.LongForm at 0
form_refusal (OverCount at) = placed reason.OverCount at 0
form_refusal (Tail at) = placed reason.Tail at 0
form_refusal OverSize = placed reason.OverSize 0 0
