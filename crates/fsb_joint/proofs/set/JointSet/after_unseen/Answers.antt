use Rattle.std.proofs.Common.{◌+◌, not, ap, ◌∙◌}
use Rattle.fsb_owners.specs.Joint.{is_after_drops, reached_by}
use Rattle.fsb_owners.specs.Possible.{after_unseen}
use Rattle.fsb_owners.specs.Shown.{is_coming, may_drop_at}
use Rattle.fsb_joint.specs.LineClock.{droppable_at, ready_at}
use Rattle.fsb_joint.proofs.set.JointSet.after_unseen.Goals as goal

pub returns : goal.returns
unfolding after_unseen droppable_at ready_at
returns c = λ v line d e f.
    c.dropped.ensures (may_drop_at v line d) f
    ∙ ap (reached_by (is_after_drops (may_drop_at v line d))) (c.stored.ensures (λ a. not (is_coming v line a (d + 1))) e)
