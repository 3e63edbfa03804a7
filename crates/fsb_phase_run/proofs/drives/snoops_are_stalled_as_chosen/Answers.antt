use Rattle.fsb_phase_run.proofs.StallDrive.{stall-drive}
use Rattle.fsb_phase_run.proofs.drives.snoops_are_stalled_as_chosen.Goals as goal

pub returns : goal.returns
returns c = stall-drive
