use Rattle.std.proofs.Common.{refl, arith}
use Rattle.ledger.proofs.Books.{settle_law}
use Rattle.ledger.proofs.Ledger.settle.Goals as goal

pub returns-clause-law : goal.returns-clause-law
returns-clause-law g c = λ k s. settle_law g.V.CoinsView g.C.SpendCondition k c.args.self.now _ c.in_ok-chain.chain _ c.args.n c.in_ok-chain.ensures.ok_part s (omega arith) refl refl refl refl refl refl c.keep.ensures
