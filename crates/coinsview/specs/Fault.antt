-- The reason that each fault of a view stands for.
use Rattle.refusal.specs.declared.Reason.{Reason}
use Rattle.refusal.specs.declared.Reason.TheVariants as reason
use Rattle.coinsview.specs.declared.fault.ViewFault.{ViewFault}
use Rattle.coinsview.specs.declared.fault.ViewFault.TheVariants.{Exists, Full}

abbrev pub reason_of : ViewFault → Reason
reason_of Exists = reason.Exists
reason_of Full = reason.Full
