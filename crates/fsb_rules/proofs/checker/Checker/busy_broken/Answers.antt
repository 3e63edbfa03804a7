use Rattle.std.proofs.Common.{sym, ◌∙◌, arith}
use Rattle.fsb_rules.proofs.LeastRule.{busy_rules, in_time}
use Rattle.fsb_rules.proofs.checker.Checker.busy_broken.Goals as goal

pub returns-else-is_response_early : goal.returns-else-is_response_early
returns-else-is_response_early c = λ h comes well a.
    let t = in_time comes well (sym (c.is_response_early.ensures h a) ∙ c.if-is_response_early.false) in
    let m = c.moved_broken.ensures h comes well t in grind (arith, busy_rules)
