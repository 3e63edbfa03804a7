use Rattle.std.proofs.Common.{◌≡◌, ◌∙◌, ◌+◌, false, sym}
use Rattle.vcd_way.specs.Events.{Sampled}
use Rattle.vcd_course.specs.Told.{last_told}
use Rattle.scope_check.specs.Parts.{closes}
use Rattle.scope_check.proofs.Counting.{if-err, many-parted, inside-few, both-few}
use Rattle.scope_check.proofs.PartTurns.{ends_is, goes_further}
use Rattle.scope_check.proofs.parting.Parting.go_on.Goals as goal

pub returns-in_ok-self-clause-parted : goal.returns-in_ok-self-clause-parted
returns-in_ok-self-clause-parted c p es w s phase =
    let g = c.args.self.now in
    let x = c.args.sample.now in
    let t = last_told c.args.stamp in
    let stays : closes p s.before s.part (Sampled x t) ≡ false =
    ends_is g p es w x t s ∙ sym c.in_ok-is_past.ensures.past ∙ c.if-branch.false in
    goes_further g p es w x t s phase stays c.in_ok-self.field-0 c.in_ok-self.ensures.more

pub returns-in_err-self-clause-many : goal.returns-in_err-self-clause-many
returns-in_err-self-clause-many c p es w s phase =
    if-err _ (many-parted c.args.self.now.inside es c.in_err-self.ensures.full (inside-few c.args.self.now p es w s))

pub returns-in_err-is_past-clause-many : goal.returns-in_err-is_past-clause-many
returns-in_err-is_past-clause-many c p es w s phase =
    let g = c.args.self.now in
    if-err _ (many-parted (g.start + g.inside) es c.in_err-is_past.ensures.full (both-few g p es w s))
