use Rattle.vcd_way.proofs.Longer.{so_far-longer, events-longer, fault-stays}
use Rattle.vcd_way.proofs.laws.first_bytes_stay.Goals as goal

pub returns-clause-so_far : goal.returns-clause-so_far
returns-clause-so_far g c = so_far-longer

pub returns-clause-events : goal.returns-clause-events
returns-clause-events g c = events-longer

pub returns-clause-fault : goal.returns-clause-fault
returns-clause-fault g c = fault-stays
