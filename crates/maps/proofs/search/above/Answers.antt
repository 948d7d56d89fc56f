use Rattle.std.proofs.Common.{ap, ◌∙◌}
use Rattle.std.specs.Option.{option_map}
use Rattle.maps.specs.Keyed.{outpoints}
use Rattle.maps.specs.Maps.{next_of}
use Rattle.maps.proofs.Searches.{above_found, above_missing}
use Rattle.maps.proofs.search.above.Goals as goal

pub returns-in-Ok-clause-first : goal.returns-in-Ok-clause-first
returns-in-Ok-clause-first g c = ap (λ x. next_of outpoints (option_map (λ x. x.now) x) c.args.cells.now) c.in-Some.is ∙ above_found outpoints _ _ _ c.requires c.in-Ok.ensures

pub returns-in-Err-clause-first : goal.returns-in-Err-clause-first
returns-in-Err-clause-first g c = ap (λ x. next_of outpoints (option_map (λ x. x.now) x) c.args.cells.now) c.in-Some.is ∙ above_missing outpoints _ _ _ c.in-Err.ensures
