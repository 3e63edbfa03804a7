use Rattle.fsb_run_laws.proofs.CompletionClocks.{completes-exactly}
use Rattle.fsb_run_laws.proofs.scripts.completions_have_clocks.Goals as goal

pub returns : goal.returns
returns c = completes-exactly
