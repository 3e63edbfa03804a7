use Rattle.fsb_timely.proofs.ToldLines.{entry-same}
use Rattle.fsb_timely.proofs.laws.hazard_lines_go_by_number.Goals as goal

pub returns : goal.returns
returns c = entry-same
