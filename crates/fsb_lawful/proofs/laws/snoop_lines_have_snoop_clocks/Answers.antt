use Rattle.fsb_lawful.proofs.SnoopLines.{keeps-11}
use Rattle.fsb_lawful.proofs.laws.snoop_lines_have_snoop_clocks.Goals as goal

pub returns : goal.returns
returns c = keeps-11
