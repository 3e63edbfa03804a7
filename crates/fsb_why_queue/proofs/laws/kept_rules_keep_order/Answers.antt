use Rattle.fsb_why_queue.proofs.Order.{order_kept}
use Rattle.fsb_why_queue.proofs.laws.kept_rules_keep_order.Goals as goal

pub returns : goal.returns
returns c = order_kept
