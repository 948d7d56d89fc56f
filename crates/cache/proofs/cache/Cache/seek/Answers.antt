use Rattle.std.proofs.Common.{None, sym, ◌∙◌}
use Rattle.cache.proofs.Turns.{over_at}
use Rattle.cache.proofs.cache.Cache.seek.Goals as goal

pub returns-in-Ok-clause-value : goal.returns-in-Ok-clause-value
returns-in-Ok-clause-value g c =
    let s = c.args.self.now in
    sym (over_at _ _ _ _ c.requires.1 s.table.sorted (g.V.CoinsView.sorted s.below c.requires.0) c.args.at.now _ c.entry.ensures)

pub returns-in-Err-clause-value : goal.returns-in-Err-clause-value
returns-in-Err-clause-value g c =
    let s = c.args.self.now in
    c.look.ensures.value ∙ sym (over_at _ _ _ _ c.requires.1 s.table.sorted (g.V.CoinsView.sorted s.below c.requires.0) c.args.at.now None c.in-Err.ensures.2)
