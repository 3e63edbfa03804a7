use Rattle.fsb_flight.proofs.QueueStep.{goes_on-holds}
use Rattle.fsb_flight.proofs.laws.queue_goes_on.Goals as goal

pub returns : goal.returns
returns c = λ p h clock x queue new turns later outcome k t n. goes_on-holds p h clock x queue new turns later
    outcome k t n
