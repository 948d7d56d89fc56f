use Rattle.std.proofs.Common.{◌≡◌, ◌-◌, ◌^◌, ◌<◌}
use Rattle.blockbytes.specs.Form.{times, Step, Computes}
use Rattle.blockbytes.proofs.form.times.Given as goal

-- what is left to read from here answers what the whole list answers
abbrev pub invariant-loop-i : goal.invariant-loop-i
invariant-loop-i g l = (l.at < 2 ^ 64) × ((form : Step) → Computes (goal.F-post g l.step) form → times l.n form l.initial.at ≡ times (l.n - l._i) form l.at)
