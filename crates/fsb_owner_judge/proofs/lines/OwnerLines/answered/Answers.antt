use Rattle.std.proofs.Common.{sym, ◌∙◌}
use Rattle.fsb_owner_judge.proofs.RuleForms.{end-none, end-spoiled}
use Rattle.fsb_owner_judge.proofs.lines.OwnerLines.answered.Goals as goal

pub returns-then-is_spoiled : goal.returns-then-is_spoiled
returns-then-is_spoiled c = λ first v s f k e b.
    c.nothing.ensures
    ∙ end-spoiled first v s c.in-Some.end (sym e ∙ c.in-Some.is)
    (sym (k c.in-Some.end.line) ∙ sym c.is_spoiled.ensures ∙ c.if-is_spoiled.true)

pub returns-else-is_spoiled : goal.returns-else-is_spoiled
returns-else-is_spoiled c = λ first v s f k e b.
    c.end_rules.ensures first v s f
    (sym (k c.in-Some.end.line) ∙ sym c.is_spoiled.ensures ∙ c.if-is_spoiled.false)
    (sym c.in-Some.is ∙ e) (b c.in-Some.end.line)

pub returns-in-None : goal.returns-in-None
returns-in-None c = λ first v s f k e b. c.nothing-in-None.ensures ∙ end-none first v s (sym e ∙ c.in-None.is)
