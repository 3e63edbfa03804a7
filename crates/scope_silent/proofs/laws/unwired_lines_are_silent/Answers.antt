use Rattle.scope_silent.proofs.Events.{unwired-silent}
use Rattle.scope_silent.proofs.laws.unwired_lines_are_silent.Goals as goal

pub returns : goal.returns
returns c = unwired-silent
