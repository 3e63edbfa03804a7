use Rattle.std.proofs.Common.{subst}
use Rattle.fsb_owner_feed.specs.Table.{SaysMoving}
use Rattle.fsb_why_queue.proofs.OnTheWay.{moved-none, moving-is}
use Rattle.fsb_why_queue.proofs.queue.Queue.moving_with.Goals as goal

pub returns-in-Some-response : goal.returns-in-Some-response
returns-in-Some-response c = λ h s o e.
    moving-is h c.in-Some.row c.args.self.now.responses c.saturating_sub.result c.in-Some-response.response c.args.chunks
    (subst (SaysMoving h) c.in-Some.is (c.moving.ensures h s.table o)) s.responses c.saturating_sub.ensures
    c.in-Some-response.is e

pub returns-in-None-response : goal.returns-in-None-response
returns-in-None-response c = λ h s o e.
    absurd (moved-none h c.in-Some.row (subst (SaysMoving h) c.in-Some.is (c.moving.ensures h s.table o))
    c.in-None-response.is)
