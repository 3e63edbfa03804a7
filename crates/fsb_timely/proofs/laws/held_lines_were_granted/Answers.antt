use Rattle.fsb_timely.proofs.Since.{holds_line-says, holds_line-from}
use Rattle.fsb_timely.proofs.laws.held_lines_were_granted.Goals as goal

pub returns : goal.returns
returns c = λ p a line n. (holds_line-says p a line n, holds_line-from p a line n)
