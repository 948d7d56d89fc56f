-- The refusal that each fault of a block file and of a peek is.
use Rattle.refusal.specs.declared.Refusal.{Refusal}
use Rattle.refusal.specs.declared.Reason.TheVariants as reason
use Rattle.refusal.specs.Placed.{placed}
use Rattle.blockbytes.specs.Faults.{form_refusal}
use Rattle.blockfile.specs.declared.fault.FileFault.{FileFault}
use Rattle.blockfile.specs.declared.fault.FileFault.TheVariants.{OverSize, Cut, Ended}
use Rattle.blockfile.specs.declared.fault.PeekFault.{PeekFault}
use Rattle.blockfile.specs.declared.fault.PeekFault.TheVariants.{File, Form}

abbrev pub file_refusal : FileFault → Refusal
file_refusal OverSize = placed reason.FileOverSize 0 0
file_refusal (Cut at) = placed reason.FileCut at 0
file_refusal Ended = placed reason.Ended 0 0

abbrev pub peek_refusal : PeekFault → Refusal
peek_refusal (File f) = file_refusal f
peek_refusal (Form f) = form_refusal f
