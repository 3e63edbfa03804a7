use Rattle.fsb_run_laws.proofs.OpenRequests.{open-told}
use Rattle.fsb_run_laws.proofs.moments.open_lists_are_told.Goals as goal

pub returns : goal.returns
returns c = λ r n h. open-told r n h.timely h.long
