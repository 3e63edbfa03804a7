use Rattle.std.proofs.Common.{ap, ◌∙◌}
use Rattle.fsb_joint.specs.Sets.{joints_of}
use Rattle.fsb_owners.specs.Possible.{after_begin}
use Rattle.fsb_owner_judge.proofs.LineSights.{begun-one}
use Rattle.fsb_owner_judge.proofs.lines.OwnerLines.begun_set.Goals as goal

pub after_begin-requires : goal.after_begin-requires
after_begin-requires c = rw c.begun_for.ensures (begun-one c.args.line c.args.begun c.requires)

pub returns : goal.returns
returns c = λ v d e.
    c.after_begin.ensures v c.args.line d (c.begun_for.ensures ∙ e)
    ∙ ap (λ set. after_begin v c.args.line d (joints_of set)) c.get.ensures
