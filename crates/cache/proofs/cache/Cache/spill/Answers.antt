use Rattle.std.proofs.Common.{ap, ◌∙◌}
use Rattle.cache.specs.Parts.{entries_of}
use Rattle.cache.specs.Rules.{taken_below, put_below}
use Rattle.cache.proofs.Turns.{spill_can, spill_map, kept_empty}
use Rattle.cache.proofs.cache.Cache.spill.Goals as goal

pub put_dirty-requires-clause-fits : goal.put_dirty-requires-clause-fits
put_dirty-requires-clause-fits g c =
    let v = g.V.CoinsView in
    let s = c.args.self.now in
    let t = c.take_dirty.ensures in
    spill_can _ _ _ _ c.requires.1 s.table.sorted (v.sorted s.below c.requires.0) _ _ _ c.as_slice-2.ensures (t.map ∙ ap (λ a. taken_below a (v.coins s.below)) c.as_slice.ensures) t.fixed

pub returns-clause-map : goal.returns-clause-map
returns-clause-map g c =
    let v = g.V.CoinsView in
    let s = c.args.self.now in
    let t = c.take_dirty.ensures in
    c.put_dirty.ensures.map ∙ ap (λ a. put_below a (v.coins c.take_dirty.new.below)) c.as_slice-2.ensures ∙ ap (put_below (entries_of s)) (t.map ∙ ap (λ a. taken_below a (v.coins s.below)) c.as_slice.ensures) ∙ spill_map _ _ _ _ c.requires.1 s.table.sorted (v.sorted s.below c.requires.0)

pub returns-clause-kept : goal.returns-clause-kept
returns-clause-kept g c =
    let v = g.V.CoinsView in
    let s = c.args.self.now in
    kept_empty _ _ _ _ c.requires.1 s.table.sorted (v.sorted s.below c.requires.0) _ _ (returns-clause-map g c) (c.put_dirty.ensures.fixed ∙ c.take_dirty.ensures.fixed)
