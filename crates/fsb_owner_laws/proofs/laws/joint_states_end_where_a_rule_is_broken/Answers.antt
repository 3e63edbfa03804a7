use Rattle.fsb_owner_laws.proofs.BrokenRules.{begun_breaks, shown_breaks}
use Rattle.fsb_owner_laws.proofs.Emptied.{next}
use Rattle.fsb_owner_laws.proofs.laws.joint_states_end_where_a_rule_is_broken.Goals as goal

pub returns : goal.returns
returns c = record { next = next; begun = begun_breaks; shown = shown_breaks }
