use Rattle.fsb_timely.proofs.LoggedItems.{logged-next, not-behind}
use Rattle.fsb_timely.proofs.steps.entries_are_of_next_items.Goals as goal

pub returns-clause-next : goal.returns-clause-next
returns-clause-next c = logged-next

pub returns-clause-behind : goal.returns-clause-behind
returns-clause-behind c = not-behind
