use Rattle.ledgertests.proofs.state.coins_of.Given as goal

abbrev pub invariant-loop : goal.invariant-loop
invariant-loop g l = g.V.CoinsView.ok l.ledger.state.view
