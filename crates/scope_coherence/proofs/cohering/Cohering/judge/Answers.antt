use Rattle.std.proofs.Common.{arith, ap, sym, ◌∙◌, ◌+◌}
use Rattle.scope_coherence.proofs.Judging.{no-phase, phase-now}
use Rattle.scope_coherence.proofs.cohering.Cohering.judge.Goals as goal

pub returns-in-Some-clause-stands : goal.returns-in-Some-clause-stands
returns-in-Some-clause-stands c = λ m first w f.
    phase-now m first w c.args.sample.now c.in-Some.broken f.unbroken
    (sym c.in-Some.is ∙ c.feed-broken.ensures.verdict m w f.checker)

pub returns-in-None-clause-stands : goal.returns-in-None-clause-stands
returns-in-None-clause-stands c = λ m first w f.
    c.judge_ownership.ensures.stands m first w (record {
      sound = no-phase m first w c.args.sample.now (sym c.in-None.is ∙ c.feed-broken.ensures.verdict m w f.checker);
      checker = c.feed-broken.ensures.stands m w f.checker;
      coherence = f.coherence;
      count = ap (λ n. n + 1) f.count;
      few = let few = f.few in omega (arith, few);
      none = f.none;
    })
