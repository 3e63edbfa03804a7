use Rattle.fsb_coherent.proofs.FromSnoop.{from-snoop}
use Rattle.fsb_coherent.proofs.laws.snoop_ends_keep_ties.Goals as goal

pub returns : goal.returns
returns c = from-snoop
