use Rattle.connecting.proofs.Tests.{id_is}
use Rattle.checking.proofs.is_same.Goals as goal
use Rattle.std.proofs.lemmas.Bool.Decides.{Decides-eqb}
use Rattle.std.proofs.lemmas.Slice.Eq.{slice_eq-Decides}

pub returns : goal.returns
returns c = id_is _ _ _ (slice_eq-Decides Decides-eqb c.args.a.now c.args.b.now c.eq.result c.eq.ensures)
