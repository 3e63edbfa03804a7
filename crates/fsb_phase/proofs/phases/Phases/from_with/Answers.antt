use Rattle.std.proofs.Common.{is_some, sym, ap, ◌∙◌}
use Rattle.fsb_phase.proofs.Course.{from_done, from_going, from_quiet, taken}
use Rattle.fsb_phase.proofs.phases.Phases.from_with.Goals as goal

pub returns-then-not-has_answered : goal.returns-then-not-has_answered
returns-then-not-has_answered c = λ h turns k t snooped transfer.
    rw (c.answer_after.ensures, c.copied.ensures ∙ c.at.ensures)
    (from_quiet (taken k t).1 c.args.clock c.is_some-ends.result t.clock_is
    (c.is_some-ends.ensures ∙ ap is_some snooped) (sym (c.has_answered.ensures h k.heads) ∙ c.if-not-has_answered.true))

pub returns-then-is_some : goal.returns-then-is_some
returns-then-is_some c = λ h turns k t snooped transfer.
    from_going (taken k t).1 c.args.transfer transfer
    (sym (c.has_answered.ensures h k.heads) ∙ c.if-not-has_answered.false)
    (sym c.is_some.ensures ∙ c.if-is_some.true)

pub returns-else-is_some : goal.returns-else-is_some
returns-else-is_some c = λ h turns k t snooped transfer.
    rw (
      c.answer_after-else-is_some.ensures,
      c.copied-else-is_some.ensures ∙ c.at-else-is_some.ensures,
    ) (from_done (taken k t).1 c.args.clock c.from.result c.is_some-ends.result c.args.transfer t.clock_is
    c.from.ensures (c.is_some-ends.ensures ∙ ap is_some snooped) transfer
    (sym (c.has_answered.ensures h k.heads) ∙ c.if-not-has_answered.false) (sym c.is_some.ensures ∙ c.if-is_some.false))
