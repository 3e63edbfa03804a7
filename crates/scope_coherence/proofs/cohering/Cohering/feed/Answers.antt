use Rattle.std.proofs.Common.{sym}
use Rattle.scope_coherence.proofs.Judging.{found-before}
use Rattle.scope_coherence.proofs.cohering.Cohering.feed.Goals as goal

pub returns-then-is_some-clause-stands : goal.returns-then-is_some-clause-stands
returns-then-is_some-clause-stands c = λ m first w s.
    found-before m first w c.args.sample.now c.args.self.now.found _ (sym c.if-is_some.ensures) s
