use Rattle.std.proofs.Common.{sym, ap, ◌∙◌}
use Rattle.fsb_joint.specs.Sets.{joints_of}
use Rattle.fsb_owner_judge.specs.Verdicts.{asking_rule}
use Rattle.fsb_owner_judge.proofs.RuleForms.{rule-asked, rule-none, rule-spoiled}
use Rattle.fsb_owner_judge.proofs.lines.OwnerLines.begun_rule.Goals as goal

pub returns-then-is_spoiled : goal.returns-then-is_spoiled
returns-then-is_spoiled c = λ first v q f k e.
    rule-spoiled first v q c.in-Some.asking (sym e ∙ c.in-Some.is)
    (sym (k c.in-Some.asking.line) ∙ sym c.is_spoiled.ensures ∙ c.if-is_spoiled.true)

pub returns-else-is_spoiled : goal.returns-else-is_spoiled
returns-else-is_spoiled c = λ first v q f k e.
    c.asking_rule.ensures
    ∙ ap (asking_rule c.in-Some.asking) (ap (λ set. joints_of set) c.get.ensures ∙ f c.in-Some.asking.line)
    ∙ rule-asked first v q c.in-Some.asking (sym e ∙ c.in-Some.is)
    (sym (k c.in-Some.asking.line) ∙ sym c.is_spoiled.ensures ∙ c.if-is_spoiled.false)

pub returns-in-None : goal.returns-in-None
returns-in-None c = λ first v q f k e. rule-none first v q (sym e ∙ c.in-None.is)
