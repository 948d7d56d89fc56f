use Rattle.viewtests.proofs.drive.walk.Given as goal

abbrev pub invariant-loop : goal.invariant-loop
invariant-loop g l = g.V.CoinsView.ok l.view
