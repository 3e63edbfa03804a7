use Rattle.fsb_phase_run.proofs.ReadyDrive.{ready-drive}
use Rattle.fsb_phase_run.proofs.drives.targets_are_ready_when_due.Goals as goal

pub returns : goal.returns
returns c = ready-drive
