use Rattle.fsb_lawful.proofs.RequestLines.{keeps-8}
use Rattle.fsb_lawful.proofs.laws.request_lines_are_held.Goals as goal

pub returns : goal.returns
returns c = keeps-8
