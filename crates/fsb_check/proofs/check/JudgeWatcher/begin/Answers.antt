use Rattle.std.proofs.Common.{refl}
use Rattle.fsb_count.specs.Clocks.{first_where}
use Rattle.fsb_rules.specs.Checker.{as_broken}
use Rattle.fsb_trace.specs.Verdict.{verdict}
use Rattle.fsb_check.proofs.check.JudgeWatcher.begin.Goals as goal

pub returns : goal.returns
unfolding as_broken verdict first_where
returns c = record { checker = c.new-self.ensures; broken = refl }
