use Rattle.std.proofs.Common.{refl, sym, ◌∙◌}
use Rattle.fsb_rules.proofs.OpenGoes.{cancelled_left, plain_left}
use Rattle.fsb_rules.proofs.outstanding.Open.after.Goals as goal

pub returns-then-cancels : goal.returns-then-cancels
returns-then-cancels c = λ h x v g k. sym (cancelled_left g k (sym (c.if-cancels.ensures h x v g)))

pub returns-then-not-ends : goal.returns-then-not-ends
returns-then-not-ends c = λ h x v g k.
    sym (plain_left g k (sym (c.if-cancels.ensures h x v g)) (sym c.if-is_some.ensures)
    ∙ (rw (sym (c.if-not-ends.ensures h x v g)) refl))

pub returns-then-defers : goal.returns-then-defers
returns-then-defers c = λ h x v g k.
    let ends = sym (c.if-not-ends.ensures h x v g) in
    sym (plain_left g k (sym (c.if-cancels.ensures h x v g)) (sym c.if-is_some.ensures)
    ∙ (rw (ends, sym (c.if-defers.ensures h x v g _ ends), g.clock) refl))

pub returns-else-defers : goal.returns-else-defers
returns-else-defers c = λ h x v g k.
    let ends = sym (c.if-not-ends.ensures h x v g) in
    sym (plain_left g k (sym (c.if-cancels.ensures h x v g)) (sym c.if-is_some.ensures)
    ∙ (rw (ends, sym (c.if-defers.ensures h x v g _ ends)) refl))
