use Rattle.std.proofs.Common.{ap, ◌∙◌}
use Rattle.fsb_owner_judge.specs.Verdicts.{answered_at, rule_by}
use Rattle.fsb_owner_judge.proofs.Judging.{not-decoded}
use Rattle.fsb_owner_judge.proofs.lines.OwnerLines.rule_now.Goals as goal

pub returns : goal.returns
returns c = λ first v n f k l e.
    c.rule_by.ensures
    ∙ ap (λ a. rule_by c.args.begun a c.args.late.now c.is_hit_wrong-is_hit_wrong.result c.args.shown.now.is_given_again)
    (c.answered-now.ensures first v n f k e (λ line. not-decoded v line n l))
    ∙ ap (λ b. rule_by c.args.begun (answered_at first v n) c.args.late.now b c.args.shown.now.is_given_again)
    (c.is_hit_wrong-is_hit_wrong.ensures first v n k e)
