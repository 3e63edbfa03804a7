use Rattle.fsb_timely.proofs.MomentFields.{begun-told, cancelled-told}
use Rattle.fsb_timely.proofs.laws.moments_have_the_beginnings.Goals as goal

pub returns-clause-begun : goal.returns-clause-begun
returns-clause-begun c = begun-told

pub returns-clause-cancelled : goal.returns-clause-cancelled
returns-clause-cancelled c = cancelled-told
