use Rattle.std.proofs.Common.{◌≡◌, ◌∙◌, true, false, ap, sym, subst}
use Rattle.vcd_way.specs.Events.{Sampled}
use Rattle.vcd_course.specs.Told.{last_told}
use Rattle.scope_check.specs.declared.judging.Judging.{Judging}
use Rattle.scope_check.specs.declared.judging.Phase.{Phase}
use Rattle.scope_check.specs.declared.judging.Phase.TheVariants as phases
use Rattle.scope_check.specs.Parts.{closes}
use Rattle.scope_check.specs.Standing.{IsStage, later_at}
use Rattle.scope_check.proofs.Counting.{after-few, if-err, judged-few, many}
use Rattle.scope_check.proofs.Growing.{part_ends}
use Rattle.scope_check.proofs.Turns.{closes_is, goes_on, passes_by}
use Rattle.scope_check.proofs.judging.Judging.go_on.Goals as goal

pub returns-in_ok-self-clause-stands : goal.returns-in_ok-self-clause-stands
returns-in_ok-self-clause-stands c p m es s phase =
    let j = c.args.self.now in
    let x = c.args.sample.now in
    let t = last_told c.args.stamp in
    let f : IsStage phases.Inside j (later_at p s.before) m s.before s.part s.behind =
    subst (λ (ph : Phase). IsStage ph j (later_at p s.before) m s.before s.part s.behind) phase s.stage in
    let stops : closes p s.before s.part (Sampled x t) ≡ true =
    closes_is j p m es x t s f.0.0.count ∙ sym c.is_past.ensures ∙ c.if-is_past.true in
    passes_by j p m es x t s f.0 (part_ends p es s.before s.part s.behind (Sampled x t) s.parted f.0.1 f.1 stops)
    c.in_ok-self.field-0 c.in_ok-self.ensures.more

pub returns-in_ok-judge-clause-stands : goal.returns-in_ok-judge-clause-stands
returns-in_ok-judge-clause-stands c p m es s phase =
    let j = c.args.self.now in
    let x = c.args.sample.now in
    let t = last_told c.args.stamp in
    let same = c.judge.ensures.rest in
    let later = later_at p s.before in
    let f : IsStage phases.Inside j later m s.before s.part s.behind =
    subst (λ (ph : Phase). IsStage ph j later m s.before s.part s.behind) phase s.stage in
    let stays : closes p s.before s.part (Sampled x t) ≡ false =
    closes_is j p m es x t s f.0.0.count ∙ sym c.is_past.ensures ∙ c.if-is_past.false in
    goes_on j c.judge.new.self p m es (Sampled x t) s f.0.1 f.1 stays
    (ap (λ (v : Judging). v.phase) same ∙ phase) (ap (λ (v : Judging). v.part) same)
    (ap (λ (v : Judging). v.marks) same) (ap (λ (v : Judging). v.start) same)
    (ap (λ (v : Judging). v.has_stopped) same) (ap (λ (v : Judging). v.after) same)
    (c.in_ok-judge.ensures.judged later m s.part f.0.0)

pub returns-in_err-self-clause-many : goal.returns-in_err-self-clause-many
returns-in_err-self-clause-many c p m es s phase =
    if-err _ (many c.args.self.now.after es c.in_err-self.ensures.full (after-few c.args.self.now p m es s))

pub returns-in_err-judge-clause-many : goal.returns-in_err-judge-clause-many
returns-in_err-judge-clause-many c p m es s phase =
    let j = c.args.self.now in
    let f : IsStage phases.Inside j (later_at p s.before) m s.before s.part s.behind =
    subst (λ (ph : Phase). IsStage ph j (later_at p s.before) m s.before s.part s.behind) phase s.stage in
    if-err _ (many j.judged es c.in_err-judge.ensures.full (judged-few j p m es s f.0.0.count))
