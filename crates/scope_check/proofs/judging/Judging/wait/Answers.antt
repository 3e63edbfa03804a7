use Rattle.std.proofs.Common.{◌≡◌, ◌∙◌, ◌++◌, ◌∷◌, [], ℕ, None, Bool, true, false, refl, ap, sym, subst}
use Rattle.fsb_signal.specs.declared.marks.Marks.{Marks}
use Rattle.vcd_way.specs.Events.{Sampled}
use Rattle.vcd_course.specs.Told.{last_told}
use Rattle.scope_check.specs.declared.judging.Judging.{Judging}
use Rattle.scope_check.specs.declared.judging.Phase.{Phase}
use Rattle.scope_check.specs.declared.judging.Phase.TheVariants as phases
use Rattle.scope_check.specs.declared.part.Part.{Part}
use Rattle.scope_check.specs.Bounds.{begins_later}
use Rattle.scope_check.specs.Parts.{clocks_of, opens, quiet_more, quiet_run}
use Rattle.scope_check.specs.Standing.{HasFed, HasJudged, IsStage, later_at}
use Rattle.scope_check.proofs.Counting.{if-err, many, start-few, waiting-few}
use Rattle.scope_check.proofs.Turns.{begins_now, opens_is, quiet_snoc, waits_more}
use Rattle.scope_check.proofs.judging.Judging.wait.Goals as goal

pub judge-requires : goal.judge-requires
judge-requires c =
    let j = c.args.self.now in
    let p = c.requires.0 in
    let m = c.requires.1 in
    let s = c.requires.3 in
    let later = later_at p s.before in
    let w : IsStage phases.Before j later m s.before s.part s.behind =
    subst (λ (ph : Phase). IsStage ph j later m s.before s.part s.behind) c.requires.4 s.stage in (
      c.is_later.result,
      j.marks,
      [],
      record { stands = c.new-self.ensures; count = refl; follows = w.follows; found_on = refl },
    )

pub returns-in_ok-judge-clause-stands : goal.returns-in_ok-judge-clause-stands
returns-in_ok-judge-clause-stands c p m es s phase =
    let j = c.args.self.now in
    let k = c.judge.new.self in
    let e = Sampled c.args.sample.now (last_told c.args.stamp) in
    let same = c.judge.ensures.rest in
    let is_later = c.is_later.result in
    let later = later_at p s.before in
    let w : IsStage phases.Before j later m s.before s.part s.behind =
    subst (λ (ph : Phase). IsStage ph j later m s.before s.part s.behind) phase s.stage in
    let run : c.in_ok-quiet.quiet ≡ quiet_run (s.before ++ e ∷ []) =
    c.in_ok-quiet.ensures.more (last_told c.args.stamp) ∙ ap (λ (n : ℕ). quiet_more n e) w.quiet ∙ sym (quiet_snoc s.before e) in
    let open_there : opens p s.before e ≡ true =
    opens_is j p m es e s c.in_ok-quiet.quiet run ∙ sym c.opens.ensures ∙ c.if-opens.true in
    let same_later : is_later ≡ later =
    c.is_later.ensures ∙ ap (λ (q : Part). begins_later q.begin j.start j.has_stopped) s.asked
    ∙ ap (λ (n : ℕ). begins_later p.begin n j.has_stopped) s.start
    ∙ ap (λ (b : Bool). begins_later p.begin (clocks_of s.before) b) s.has_stopped in
    let fed : HasFed c.new-self.result 0 j.replies None j.stamp is_later j.marks [] =
    record { stands = c.new-self.ensures; count = refl; follows = w.follows; found_on = refl } in
    let has : HasJudged k is_later j.marks (e ∷ []) = c.in_ok-judge.ensures.judged is_later j.marks [] fed in
    begins_now j (record k { phase = phases.Inside }) p m es e s w open_there refl
    (ap (λ (v : Judging). v.part) same) (ap (λ (v : Judging). v.marks) same)
    (ap (λ (v : Judging). v.start) same) (ap (λ (v : Judging). v.has_stopped) same) (ap (λ (v : Judging). v.after) same)
    (subst (λ (l : Bool). HasJudged k l m (e ∷ [])) same_later
    (subst (λ (n : Marks). HasJudged k is_later n (e ∷ [])) s.marked has))

pub returns-in_ok-self-clause-stands : goal.returns-in_ok-self-clause-stands
returns-in_ok-self-clause-stands c p m es s phase =
    let j = c.args.self.now in
    let t = last_told c.args.stamp in
    let e = Sampled c.args.sample.now t in
    let later = later_at p s.before in
    let w : IsStage phases.Before j later m s.before s.part s.behind =
    subst (λ (ph : Phase). IsStage ph j later m s.before s.part s.behind) phase s.stage in
    let run : c.in_ok-quiet.quiet ≡ quiet_run (s.before ++ e ∷ []) =
    c.in_ok-quiet.ensures.more t ∙ ap (λ (n : ℕ). quiet_more n e) w.quiet ∙ sym (quiet_snoc s.before e) in
    let shut : opens p s.before e ≡ false =
    opens_is j p m es e s c.in_ok-quiet.quiet run ∙ sym c.opens.ensures ∙ c.if-opens.false in
    waits_more j p m es c.args.sample.now t s phase w shut c.in_ok-self.field-0 c.in_ok-quiet.quiet c.in_ok-self.ensures.more run

pub returns-in_err-self-clause-many : goal.returns-in_err-self-clause-many
returns-in_err-self-clause-many c p m es s phase =
    if-err _ (many c.args.self.now.start es c.in_err-self.ensures.full (start-few c.args.self.now p m es s))

pub returns-in_err-quiet-clause-many : goal.returns-in_err-quiet-clause-many
returns-in_err-quiet-clause-many c p m es s phase =
    let j = c.args.self.now in
    let w : IsStage phases.Before j (later_at p s.before) m s.before s.part s.behind =
    subst (λ (ph : Phase). IsStage ph j (later_at p s.before) m s.before s.part s.behind) phase s.stage in
    if-err _ (many j.quiet es c.in_err-quiet.ensures.full (waiting-few j p m es s w.quiet))
