use Rattle.fsb_script_laws.proofs.Whole.{plan_reads_back, own_text}
use Rattle.fsb_script_laws.proofs.canonical_text_reads_back.Goals as goal

pub returns-clause-same_plan : goal.returns-clause-same_plan
returns-clause-same_plan c = plan_reads_back

pub returns-clause-own_text : goal.returns-clause-own_text
returns-clause-own_text c = own_text
