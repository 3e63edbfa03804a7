use Rattle.fsb_coherent.proofs.SnoopHolders.{holders-made}
use Rattle.fsb_coherent.proofs.SnoopLinks.{deferral-made, links-made}
use Rattle.fsb_coherent.proofs.laws.snoop_ends_make_links.Goals as goal

pub returns-clause-links : goal.returns-clause-links
returns-clause-links c = links-made

pub returns-clause-deferral : goal.returns-clause-deferral
returns-clause-deferral c = deferral-made

pub returns-clause-holders : goal.returns-clause-holders
returns-clause-holders c = holders-made
