use Rattle.scope_coherence.proofs.Judging.{told}
use Rattle.scope_coherence.proofs.cohering.Cohering.found.Goals as goal

pub returns : goal.returns
returns c = λ m first w s. told c.args.self.now.found c.args.self.now m first w s
