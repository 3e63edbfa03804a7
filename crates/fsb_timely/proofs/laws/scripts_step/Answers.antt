use Rattle.fsb_timely.proofs.Items.{next_number-same, next_item-same, window-same, is_logged-more}
use Rattle.fsb_timely.proofs.laws.scripts_step.Goals as goal

pub returns-clause-number : goal.returns-clause-number
returns-clause-number c = next_number-same

pub returns-clause-item : goal.returns-clause-item
returns-clause-item c = next_item-same

pub returns-clause-window : goal.returns-clause-window
returns-clause-window c = window-same

pub returns-clause-logged : goal.returns-clause-logged
returns-clause-logged c = is_logged-more
