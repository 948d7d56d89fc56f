use Rattle.std.proofs.Common.{sym, ap, ◌∙◌}
use Rattle.connecting.proofs.Tests.{null_is}
use Rattle.blockform.specs.Readers.{piece_of}
use Rattle.connecting.specs.Parts.{null_piece}
use Rattle.checking.proofs.is_null.Goals as goal

pub returns-in-Input : goal.returns-in-Input
returns-in-Input c = null_is _ _ c.is_null.ensures ∙ sym (ap (λ i. null_piece (piece_of i)) c.in-Input.is)
