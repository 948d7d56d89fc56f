use Rattle.std.proofs.Common.{sym, ap, ◌∙◌}
use Rattle.entries.proofs.Places.{there_at}
use Rattle.cache.specs.Parts.{entries_of, below_of}
use Rattle.cache.specs.Rules.{put_entry, room_under}
use Rattle.cache.proofs.cache.Cache.write.Goals as goal

pub returns-in-Ok-clause-entries : goal.returns-in-Ok-clause-entries
returns-in-Ok-clause-entries g c =
    let es = entries_of c.args.self.now in
    c.replace.ensures ∙ sym (ap (λ w. put_entry w c.args.at c.args.coin es) (there_at _ es _ _ c.in-Ok.is c.requires.here).1)

pub returns-in-Ok-clause-below : goal.returns-in-Ok-clause-below
returns-in-Ok-clause-below g c =
    let es = entries_of c.args.self.now in
    sym (ap (λ w. room_under w es (below_of g.V.CoinsView c.args.self.now)) (there_at _ es _ _ c.in-Ok.is c.requires.here).1)
