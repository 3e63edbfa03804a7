use Rattle.fsb_run_laws.proofs.NextItems.{idle_start-stays, idles-from, idling-behind, idling-stays, number_after-stays}
use Rattle.fsb_run_laws.proofs.scripts.idling_starts.Goals as goal

pub returns-clause-start : goal.returns-clause-start
returns-clause-start c = idles-from

pub returns-clause-kept_start : goal.returns-clause-kept_start
returns-clause-kept_start c = idle_start-stays

pub returns-clause-kept_number : goal.returns-clause-kept_number
returns-clause-kept_number c = number_after-stays

pub returns-clause-idling : goal.returns-clause-idling
returns-clause-idling c = idling-behind

pub returns-clause-kept_idling : goal.returns-clause-kept_idling
returns-clause-kept_idling c = idling-stays
