use Rattle.std.proofs.Common.{arith}
use Rattle.vcd_read.proofs.Entries.{missing_here, missing_later}
use Rattle.vcd_read.proofs.machine.missing.Goals as goal

pub returns-then-is_missing : goal.returns-then-is_missing
returns-then-is_missing c =
    missing_here c.args.lines.now c.loop-number.number _ _ (omega arith) c.is_missing.ensures
    c.loop-number.invariant c.if-is_missing.true

pub loop-number-preserved : goal.loop-number-preserved
loop-number-preserved c =
    missing_later c.args.lines.now c.loop-number.number _ _ (omega arith) c.is_missing.ensures
    c.loop-number.invariant c.if-is_missing.false
