use Rattle.fsb_timely.proofs.ScriptPlaces.{follows-script}
use Rattle.fsb_timely.proofs.steps.logs_follow_scripts.Goals as goal

pub returns : goal.returns
returns c = follows-script
