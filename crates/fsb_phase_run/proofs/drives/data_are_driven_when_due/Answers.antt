use Rattle.fsb_phase_run.proofs.DataDrive.{busy-drive, chunk-drive}
use Rattle.fsb_phase_run.proofs.RespondsNow.{code-shown}
use Rattle.fsb_phase_run.proofs.drives.data_are_driven_when_due.Goals as goal

pub returns-clause-ready : goal.returns-clause-ready
returns-clause-ready c = λ r s queue grows f e. chunk-drive r s queue grows f (code-shown r s queue grows f e)

pub returns-clause-busy : goal.returns-clause-busy
returns-clause-busy c = λ r s queue grows f e. busy-drive r s queue grows f (code-shown r s queue grows f e)
