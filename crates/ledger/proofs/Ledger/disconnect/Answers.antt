use Rattle.std.proofs.lemmas.Option.{MatchOption-at_none}
use Rattle.ledger.proofs.Books.{mark_found}
use Rattle.ledger.proofs.Ledger.disconnect.Goals as goal

pub returns-in_err-unwound-clause-same : goal.returns-in_err-unwound-clause-same
returns-in_err-unwound-clause-same g c = λ k s h. mark_found g.V.CoinsView g.C.SpendCondition k c.args.self.now c.in_ok-chain.chain c.in_ok-chain.ensures.ok_part s c.if-chain-eq0.false (MatchOption-at_none _ _ c.in_err-unwound.ensures.ok_part c.unwind.ensures.value).0
