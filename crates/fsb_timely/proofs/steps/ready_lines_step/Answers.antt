use Rattle.fsb_timely.proofs.Holding.{is_ready-more}
use Rattle.fsb_timely.proofs.steps.ready_lines_step.Goals as goal

pub returns : goal.returns
returns c = is_ready-more
