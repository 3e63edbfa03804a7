use Rattle.std.proofs.Common.{◌++◌, ◌∷◌, [], sym, subst}
use Rattle.vcd_way.specs.Events.{Sampled}
use Rattle.vcd_course.specs.Told.{last_told}
use Rattle.scope_check.specs.declared.judging.Phase.{Phase}
use Rattle.scope_check.specs.declared.judging.Phase.TheVariants as phases
use Rattle.scope_check.specs.Standing.{IsStage, Stands, later_at}
use Rattle.scope_check.proofs.Counting.{after-few, if-err, many}
use Rattle.scope_check.proofs.Growing.{rest_more}
use Rattle.scope_check.proofs.Turns.{passes_by}
use Rattle.scope_check.proofs.judging.Judging.pass.Goals as goal

pub returns-clause-stands : goal.returns-clause-stands
returns-clause-stands c p m es s phase =
    let j = c.args.self.now in
    let x = c.args.sample.now in
    let t = last_told c.args.stamp in
    let f : IsStage phases.After j (later_at p s.before) m s.before s.part s.behind =
    subst (λ (ph : Phase). IsStage ph j (later_at p s.before) m s.before s.part s.behind) phase s.stage in
    subst (λ (ph : Phase). Stands (record j { phase = ph; after = c.in_ok-self.field-0 }) p m (es ++ Sampled x t ∷ []))
    (sym phase)
    (passes_by j p m es x t s f.0 (rest_more p es s.before s.part s.behind (Sampled x t) s.parted f.0.1 f.1)
    c.in_ok-self.field-0 c.in_ok-self.ensures.more)

pub returns-in_err-self-clause-many : goal.returns-in_err-self-clause-many
returns-in_err-self-clause-many c p m es s phase =
    if-err _ (many c.args.self.now.after es c.in_err-self.ensures.full (after-few c.args.self.now p m es s))
