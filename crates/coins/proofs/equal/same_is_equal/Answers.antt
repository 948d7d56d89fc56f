use Rattle.coins.proofs.Equals.{same_is_equal}
use Rattle.coins.proofs.equal.same_is_equal.Goals as goal

pub returns-clause-decides : goal.returns-clause-decides
returns-clause-decides c = same_is_equal
