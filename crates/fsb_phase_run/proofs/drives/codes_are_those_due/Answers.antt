use Rattle.fsb_phase_run.proofs.CodeDrive.{code-drive}
use Rattle.fsb_phase_run.proofs.drives.codes_are_those_due.Goals as goal

pub returns : goal.returns
returns c = code-drive
