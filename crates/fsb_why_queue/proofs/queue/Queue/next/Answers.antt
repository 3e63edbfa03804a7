use Rattle.std.proofs.Common.{subst}
use Rattle.fsb_owner_feed.specs.Table.{SaysWaiting}
use Rattle.fsb_why_queue.proofs.queue.Queue.next.Goals as goal

pub returns-in-Some : goal.returns-in-Some
returns-in-Some c = λ h g.
    c.next_of.ensures h g (subst (SaysWaiting h) c.in-Some.is (c.waiting.ensures h (g.stands).table g.orderly))

pub returns-in-None : goal.returns-in-None
returns-in-None c = λ h g.
    c.next_asking.ensures h g (subst (SaysWaiting h) c.in-None.is (c.waiting.ensures h (g.stands).table g.orderly))
