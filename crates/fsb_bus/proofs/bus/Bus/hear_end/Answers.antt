use Rattle.fsb_bus.proofs.bus.Bus.hear_end.Goals as goal

pub end-requires-clause-may : goal.end-requires-clause-may
end-requires-clause-may c = c.requires.may c.in-Some.ending c.in-Some.is
