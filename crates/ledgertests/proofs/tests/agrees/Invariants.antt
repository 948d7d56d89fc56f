use Rattle.ledgertests.proofs.tests.agrees.Given as goal

abbrev pub invariant-loop-number : goal.invariant-loop-number
invariant-loop-number g l = g.V.CoinsView.ok l.ledger.state.view
