use Rattle.std.proofs.Common.{sym}
use Rattle.scope_explain.proofs.Following.{found-before}
use Rattle.scope_explain.proofs.explaining.Explaining.feed.Goals as goal

pub returns-then-is_some-clause-stands : goal.returns-then-is_some-clause-stands
returns-then-is_some-clause-stands c = λ m w s.
    found-before m w c.args.sample.now c.args.self.now.found _ (sym c.if-is_some.ensures) s
