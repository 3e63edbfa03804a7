use Rattle.fsb_timely.proofs.TiedMoments.{snoop-tied, tied-snoop}
use Rattle.fsb_timely.proofs.laws.moments_have_the_snoop_ends.Goals as goal

pub returns-clause-reached : goal.returns-clause-reached
returns-clause-reached c = snoop-tied

pub returns-clause-told : goal.returns-clause-told
returns-clause-told c = tied-snoop
