use Rattle.fsb_timely_laws.proofs.DisorderedRun.{of-the-beginning, of-the-whole}
use Rattle.fsb_timely_laws.proofs.order_is_asked_for.Goals as goal

pub returns-clause-beginning : goal.returns-clause-beginning
returns-clause-beginning c = of-the-beginning

pub returns-clause-whole : goal.returns-clause-whole
returns-clause-whole c = of-the-whole
