use Rattle.std.proofs.Common.{◌∙◌}
use Rattle.fsb_flight.proofs.Taken.{queue_after-is}
use Rattle.fsb_flight.proofs.clock.take_clock.Goals as goal

pub returns : goal.returns
returns c = λ p h x turns k t r f e.
    c.take.ensures ∙ queue_after-is p h c.args.clock x c.args.queue.now turns c.args.phased.now c.args.outcome
    c.args.error c.args.begun k t r f e
