use Rattle.std.proofs.Common.{sym, ◌∙◌}
use Rattle.fsb_why_open.proofs.InFlight.{depth_quiet}
use Rattle.fsb_why_open.proofs.depth.queue_depth.Goals as goal

pub returns-then-has : goal.returns-then-has
returns-then-has c = λ m h g. c.full.ensures m h c.args.sample.now g (sym c.has.ensures ∙ c.if-has.true)

pub returns-else-has : goal.returns-else-has
returns-else-has c = λ m h g.
    depth_quiet m h c.args.sample.now c.args.clock g.clock (sym c.has.ensures ∙ c.if-has.false)
