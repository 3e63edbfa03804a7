use Rattle.fsb_rules.proofs.QueueGoes.{new_queue}
use Rattle.fsb_rules.proofs.in_flight.InFlight.new.Goals as goal

pub returns : goal.returns
returns c = new_queue _ c.new.ensures c.new-2.ensures c.new-3.ensures
