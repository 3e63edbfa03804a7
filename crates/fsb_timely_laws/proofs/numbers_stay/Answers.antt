use Rattle.fsb_timely_laws.proofs.Numbers.{numbers-cut, numbers-same}
use Rattle.fsb_timely_laws.proofs.numbers_stay.Goals as goal

pub returns-clause-two_traces : goal.returns-clause-two_traces
returns-clause-two_traces c w v k = numbers-same k w v

pub returns-clause-first_samples : goal.returns-clause-first_samples
returns-clause-first_samples c = numbers-cut
