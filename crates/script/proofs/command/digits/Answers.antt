use Rattle.std.proofs.Common.{rules}
use Rattle.script.proofs.Grows.{reads_on}
use Rattle.script.proofs.command.digits.Goals as goal

pub returns-in_err-checked_mul : goal.returns-in_err-checked_mul
returns-in_err-checked_mul c = let h = reads_on c.loop-i.value c.loop-i.i c.args.bytes.now c.loop-i-test.true in search rules

pub returns-in_err-value : goal.returns-in_err-value
returns-in_err-value c = let h = reads_on c.loop-i.value c.loop-i.i c.args.bytes.now c.loop-i-test.true in search rules
