use Rattle.std.proofs.Common.{true, false, refl, sym, ◌∙◌}
use Rattle.fsb_phase.proofs.Course.{next_of, snooped, taken}
use Rattle.fsb_phase.proofs.phases.Phases.snooped_with.Goals as goal

pub returns-then-stalls : goal.returns-then-stalls
returns-then-stalls c = λ h turns k t.
    snooped (taken k t).1 _ true refl (sym c.stalls.ensures ∙ c.if-stalls.true)

pub returns-else-stalls : goal.returns-else-stalls
returns-else-stalls c = λ h turns k t.
    snooped (taken k t).1 c.snooping.result false (c.snooping.ensures h turns (next_of k t))
    (sym c.stalls.ensures ∙ c.if-stalls.false)
