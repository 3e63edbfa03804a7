use Rattle.fsb_script_laws.proofs.Whole.{plan_reads_back}
use Rattle.fsb_script_laws.proofs.ReadPlans.{read_is_lawful}
use Rattle.fsb_script_laws.proofs.plans_that_were_read_are_lawful.Goals as goal

pub returns-clause-lawful : goal.returns-clause-lawful
returns-clause-lawful c = read_is_lawful

pub returns-clause-written_again : goal.returns-clause-written_again
returns-clause-written_again c text p read = plan_reads_back p (read_is_lawful text p read)
