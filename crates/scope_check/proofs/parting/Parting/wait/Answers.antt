use Rattle.std.proofs.Common.{◌≡◌, ◌∙◌, ◌++◌, ◌∷◌, [], ℕ, true, false, ap, sym}
use Rattle.vcd_way.specs.Events.{Sampled}
use Rattle.vcd_course.specs.Told.{last_told}
use Rattle.scope_check.specs.declared.judging.Phase.TheVariants as phases
use Rattle.scope_check.specs.Parts.{opens, quiet_more, quiet_run}
use Rattle.scope_check.proofs.Turns.{quiet_snoc}
use Rattle.scope_check.proofs.Counting.{if-err, many-parted, before-few, part-quiet-few}
use Rattle.scope_check.proofs.PartTurns.{stage_at, begins_is, begins_there, stays_before}
use Rattle.scope_check.proofs.parting.Parting.wait.Goals as goal

pub returns-then-opens-clause-parted : goal.returns-then-opens-clause-parted
returns-then-opens-clause-parted c p es w s phase =
    let g = c.args.self.now in
    let x = c.args.sample.now in
    let t = last_told c.args.stamp in
    let e = Sampled x t in
    let run : c.in_ok-quiet.quiet ≡ quiet_run (s.before ++ e ∷ []) =
    c.in_ok-quiet.ensures.more t ∙ ap (λ (n : ℕ). quiet_more n e) (stage_at phases.Before g p es w s phase).2
    ∙ sym (quiet_snoc s.before e) in
    let open_there : opens p s.before e ≡ true =
    begins_is g p es w e s c.in_ok-quiet.quiet run ∙ sym c.opens.ensures ∙ c.if-opens.true in
    begins_there g p es w x t s phase open_there

pub returns-in_ok-self-clause-parted : goal.returns-in_ok-self-clause-parted
returns-in_ok-self-clause-parted c p es w s phase =
    let g = c.args.self.now in
    let x = c.args.sample.now in
    let t = last_told c.args.stamp in
    let e = Sampled x t in
    let run : c.in_ok-quiet.quiet ≡ quiet_run (s.before ++ e ∷ []) =
    c.in_ok-quiet.ensures.more t ∙ ap (λ (n : ℕ). quiet_more n e) (stage_at phases.Before g p es w s phase).2
    ∙ sym (quiet_snoc s.before e) in
    let shut : opens p s.before e ≡ false =
    begins_is g p es w e s c.in_ok-quiet.quiet run ∙ sym c.opens.ensures ∙ c.if-opens.false in
    stays_before g p es w x t s phase shut c.in_ok-self.field-0 c.in_ok-quiet.quiet c.in_ok-self.ensures.more run

pub returns-in_err-self-clause-many : goal.returns-in_err-self-clause-many
returns-in_err-self-clause-many c p es w s phase =
    if-err _ (many-parted c.args.self.now.start es c.in_err-self.ensures.full (before-few c.args.self.now p es w s))

pub returns-in_err-quiet-clause-many : goal.returns-in_err-quiet-clause-many
returns-in_err-quiet-clause-many c p es w s phase =
    let g = c.args.self.now in
    if-err _ (many-parted g.quiet es c.in_err-quiet.ensures.full
    (part-quiet-few g p es w s (stage_at phases.Before g p es w s phase).2))
