use Rattle.std.proofs.Common.{is_some, ap, ◌∙◌}
use Rattle.fsb_count.specs.Options.{is_some_and}
use Rattle.fsb_phase.specs.Due.{is_moving}
use Rattle.fsb_phase.proofs.Course.{takes}
use Rattle.fsb_phase.proofs.phases.Phases.heads_with.Goals as goal

pub returns : goal.returns
returns c = λ h turns k t snooped.
    c.after.ensures h k.heads
    (takes k t _ (c.is_some.ensures ∙ ap is_some snooped) (c.readies.ensures h k t.clock_is)
    (c.has_data.ensures ∙ ap (λ o. is_some_and o is_moving) (c.copied.ensures ∙ c.at.ensures)))
