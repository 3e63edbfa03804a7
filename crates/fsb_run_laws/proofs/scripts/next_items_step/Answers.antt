use Rattle.fsb_run_laws.proofs.NextItems.{next-behind}
use Rattle.fsb_run_laws.proofs.scripts.next_items_step.Goals as goal

pub returns : goal.returns
returns c = next-behind
