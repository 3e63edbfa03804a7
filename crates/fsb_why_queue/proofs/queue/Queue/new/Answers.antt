use Rattle.std.proofs.Common.{sym}
use Rattle.fsb_laws.proofs.Interface.{response_count-empty}
use Rattle.fsb_why_queue.proofs.Ends.{ended-empty, last-empty, snooped-empty}
use Rattle.fsb_why_queue.proofs.Busy.{last-none}
use Rattle.fsb_why_queue.proofs.queue.Queue.new.Goals as goal

pub returns-clause-stands : goal.returns-clause-stands
returns-clause-stands c = record { table = (c.new.ensures).stands; responses = sym response_count-empty; snooped = snooped-empty; last = last-empty; ended = ended-empty; answered = last-none }
