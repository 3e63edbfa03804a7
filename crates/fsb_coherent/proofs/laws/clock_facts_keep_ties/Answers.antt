use Rattle.fsb_coherent.proofs.KeptTies.{facts-keep-ties}
use Rattle.fsb_coherent.proofs.laws.clock_facts_keep_ties.Goals as goal

pub returns : goal.returns
returns c = facts-keep-ties
