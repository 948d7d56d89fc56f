use Rattle.std.proofs.Common.{sym, ap}
use Rattle.entries.proofs.Places.{there_at}
use Rattle.cache.specs.Parts.{entries_of}
use Rattle.cache.specs.Rules.{look_entry}
use Rattle.cache.proofs.cache.Cache.keep.Goals as goal

pub returns-in-Ok-clause-entries : goal.returns-in-Ok-clause-entries
returns-in-Ok-clause-entries g c =
    let es = entries_of c.args.self.now in
    sym (ap (λ w. look_entry w c.args.at.now c.args.coin es) (there_at _ es _ _ c.in-Ok.is c.requires).1)
