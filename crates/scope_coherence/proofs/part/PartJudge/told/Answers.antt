use Rattle.std.proofs.Common.{refl}
use Rattle.scope_coherence.proofs.Passing.{tells-none}
use Rattle.scope_coherence.proofs.part.PartJudge.told.Goals as goal

pub returns-then-not-self : goal.returns-then-not-self
returns-then-not-self c = λ p m es before w s.
    tells-none c.args.self.now _ p m es before w refl c.begins_later-is_later.ensures
    c.if-not-self.true s refl
