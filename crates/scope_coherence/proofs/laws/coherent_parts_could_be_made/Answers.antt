use Rattle.scope_coherence.proofs.Explained.{part-explained}
use Rattle.scope_coherence.proofs.laws.coherent_parts_could_be_made.Goals as goal

pub returns : goal.returns
returns c = part-explained
