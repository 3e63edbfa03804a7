use Rattle.fsb_run_laws.proofs.DirtyVictims.{victim-from, victim-says}
use Rattle.fsb_run_laws.proofs.lines.victims_are_dirty_rivals.Goals as goal

pub returns-clause-dirty : goal.returns-clause-dirty
returns-clause-dirty c = victim-from

pub returns-clause-victim : goal.returns-clause-victim
returns-clause-victim c = victim-says
