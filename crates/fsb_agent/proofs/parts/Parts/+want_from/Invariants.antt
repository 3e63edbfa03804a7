use Rattle.fsb_agent.proofs.parts.Parts.+want_from.Given as goal

abbrev pub decreases-want_from : goal.decreases-want_from
decreases-want_from l = l.more
