use Rattle.fsb_bus.proofs.bus.Bus.hear_start.Goals as goal

pub start-requires-clause-may : goal.start-requires-clause-may
start-requires-clause-may c = c.requires.may c.in-Some.starting c.in-Some.is
