use Rattle.fsb_why_queue.proofs.Order.{unbroken_order}
use Rattle.fsb_why_queue.proofs.laws.unbroken_traces_are_orderly.Goals as goal

pub returns : goal.returns
returns c = unbroken_order
