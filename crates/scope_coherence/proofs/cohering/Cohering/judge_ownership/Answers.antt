use Rattle.std.proofs.Common.{◌++◌, ◌∷◌, [], length-append, arith, sym, ◌∙◌}
use Rattle.scope_coherence.proofs.Judging.{stands-none, none-now, owner-now}
use Rattle.scope_coherence.proofs.cohering.Cohering.judge_ownership.Goals as goal

pub returns-in-Ok-None-clause-stands : goal.returns-in-Ok-None-clause-stands
returns-in-Ok-None-clause-stands c = λ m first w s.
    let x = c.args.sample.now in
    let order = c.sound_samples_keep_order.ensures m w x s.sound in
    let more = c.in-Ok-None.ensures.fed in
    stands-none _ _ m first (w ++ x ∷ []) s.none (record {
      unbroken = none-now m first w x s.sound (sym c.in-Ok-None.field-0-is ∙ c.in-Ok-None.ensures.found first w s.coherence order);
      checker = s.checker;
      coherence = c.in-Ok-None.ensures.stands first w s.coherence order;
      count = omega (arith, s.count, length-append w (x ∷ []));
      few = omega (arith, more, s.few);
      none = s.none;
    })

pub returns-in-Ok-Some-clause-stands : goal.returns-in-Ok-Some-clause-stands
returns-in-Ok-Some-clause-stands c = λ m first w s.
    let x = c.args.sample.now in
    let order = c.sound_samples_keep_order.ensures m w x s.sound in
    owner-now m first w x _ s.sound (sym c.in-Ok-Some.field-0-is ∙ c.in-Ok-Some.ensures.found first w s.coherence order)
