use Rattle.std.proofs.Common.{ap, ◌∙◌}
use Rattle.fsb_owners.specs.Possible.{after_answer, after_clock, after_snoop_end, after_unseen}
use Rattle.fsb_owner_judge.proofs.lines.after_clock.Goals as goal

pub returns : goal.returns
unfolding after_clock
returns c = λ v line d b e r m.
    c.after_unseen.ensures v line d r m
    ∙ ap (after_unseen v line d) (c.after_snoop_end.ensures v line d e
    ∙ ap (after_snoop_end v line d) (c.after_answer.ensures v line d e
    ∙ ap (after_answer v line d) (c.after_begin.ensures v line d b)))
