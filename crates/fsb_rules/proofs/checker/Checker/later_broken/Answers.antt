use Rattle.std.proofs.Common.{sym, ◌∙◌}
use Rattle.fsb_rules.proofs.QuietRules.{quiet_later}
use Rattle.fsb_rules.proofs.LeastRule.{at_now}
use Rattle.fsb_rules.proofs.checker.Checker.later_broken.Goals as goal

pub returns-then-is_quiet : goal.returns-then-is_quiet
returns-then-is_quiet c = λ h comes well.
    c.parity_broken.ensures h comes.follows
    ∙ sym (quiet_later comes well (sym (c.is_quiet.ensures h comes.follows.queue) ∙ c.if-is_quiet.true))

pub returns-else-is_quiet : goal.returns-else-is_quiet
returns-else-is_quiet c = λ h comes well. c.busy_broken.ensures h comes well (at_now comes)
