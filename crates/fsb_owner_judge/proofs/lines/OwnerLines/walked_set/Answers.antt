use Rattle.std.proofs.Common.{sym, ap, ◌∙◌}
use Rattle.fsb_joint.specs.Sets.{joints_of}
use Rattle.fsb_owners.specs.Possible.{after_clock}
use Rattle.fsb_owner_judge.specs.Sights.{begun_for, ended_for}
use Rattle.fsb_owner_judge.proofs.LineSights.{begun-at, begun-one, ended-at, ended-one}
use Rattle.fsb_owner_judge.proofs.lines.OwnerLines.walked_set.Goals as goal

pub after_clock-requires-clause-begun : goal.after_clock-requires-clause-begun
after_clock-requires-clause-begun c = rw c.begun_for.ensures (begun-one c.args.wait.now.line c.args.begun c.requires.begun)

pub after_clock-requires-clause-ended : goal.after_clock-requires-clause-ended
after_clock-requires-clause-ended c = rw c.ended_for.ensures (ended-one c.args.wait.now.line c.args.ended c.requires.ended)

pub returns : goal.returns
returns c = λ v d b e r m.
    let line = c.args.wait.now.line in
    c.after_clock.ensures v line d
    (c.begun_for.ensures ∙ ap (begun_for line) b ∙ sym (begun-at v line d))
    (c.ended_for.ensures ∙ ap (ended_for line) e ∙ sym (ended-at v line d)) r m
    ∙ ap (λ set. after_clock v line d (joints_of set)) c.get.ensures
