-- What a judge tells is what is found of its events.
use Rattle.std.proofs.Common.{◌≡◌, ◌∙◌, ℕ, ◌+◌, ◌<◌, [], Bool, List, Option, sym, ap, subst, arith}
use Rattle.fsb_signal.specs.declared.marks.Marks.{Marks}
use Rattle.fsb_rules.specs.declared.broken.Broken.{Broken}
use Rattle.vcd_way.specs.Events.{DumpEvent, samples_among}
use Rattle.scope_later.specs.Findings.{found_on}
use Rattle.scope_check.specs.declared.finding.Judged.{Judged}
use Rattle.scope_check.specs.declared.finding.Verdict.{Verdict}
use Rattle.scope_check.specs.declared.finding.Verdict.TheVariants as verdicts
use Rattle.scope_check.specs.declared.judging.Judging.{Judging}
use Rattle.scope_check.specs.declared.judging.Phase.{Phase}
use Rattle.scope_check.specs.declared.judging.Phase.TheVariants as phases
use Rattle.scope_check.specs.declared.part.Part.{Part}
use Rattle.scope_check.specs.Bounds.{begins_later}
use Rattle.scope_check.specs.Parts.{clocks_of, has_stopped}
use Rattle.scope_check.specs.Replies.{answers_before}
use Rattle.scope_check.specs.Findings.{HasStamp, IsFoundIn, Says}
use Rattle.scope_check.specs.Standing.{HasJudged, IsStage, IsStampOf, Stands, later_at}
use Rattle.scope_check.proofs.Stamping.{found-of}

-- what is told of a judge
pub record Tells (j : Judging) (f : Judged) : Type 0 where
  pub part : f.part ≡ j.part
  pub clocks : f.clocks ≡ j.start + j.judged + j.after
  pub start : f.start ≡ j.start
  pub judged : f.judged ≡ j.judged
  pub is_later : f.is_later ≡ begins_later j.part.begin j.start j.has_stopped
  pub says : Says j.start j.judged j.broken f.verdict
  pub stamp : (part : List DumpEvent) → IsStampOf j.broken j.stamp part → HasStamp j.start part f.verdict
  pub answers : f.answers_before ≡ j.replies.answers_before

-- what is said of a part and its judge
record Part-told (j : Judging) (f : Judged) (l : Bool) (m : Marks) (part : List DumpEvent) : Type 0 where
  judged : j.judged ≡ clocks_of part
  says : Says j.start j.judged (found_on l m (samples_among part)) f.verdict
  stamp : HasStamp j.start part f.verdict
  answers : j.replies.answers_before ≡ answers_before (samples_among part)

-- nothing is judged
says-none : (start judged : ℕ) (found other : Option Broken) (v : Verdict) → judged ≡ 0 → Says start judged found v
    → Says start judged other v
says-none start judged found other verdicts.Nothing none h = h
says-none start judged found other verdicts.Accepted none h =
    absurd (let some : 0 < judged = h.1 in omega (arith, some, none))
says-none start judged found other (verdicts.Broken clock rule stamp) none h =
    absurd (let some : 0 < judged = h.4 in omega (arith, some, none))

stamp-none : (start judged : ℕ) (found : Option Broken) (v : Verdict) → judged ≡ 0 → Says start judged found v
    → HasStamp start [] v
stamp-none start judged found verdicts.Nothing none h = tt
stamp-none start judged found verdicts.Accepted none h = tt
stamp-none start judged found (verdicts.Broken clock rule stamp) none h =
    absurd (let some : 0 < judged = h.4 in omega (arith, some, none))

judged-told : (j : Judging) (f : Judged) (l : Bool) (m : Marks) (part : List DumpEvent) → Tells j f
    → HasJudged j l m part → Part-told j f l m part
judged-told j f l m part t h =
    let is = found-of j.broken j.stamp l m part h.1 h.0.found_on in
    record {
      judged = h.0.count;
      says = subst (λ (b : Option Broken). Says j.start j.judged b f.verdict) is.0 t.says;
      stamp = t.stamp part is.1;
      answers = h.0.follows.answers;
    }

part-told : (ph : Phase) (j : Judging) (f : Judged) (l : Bool) (m : Marks) (before part behind : List DumpEvent) → Tells j f
    → IsStage ph j l m before part behind → Part-told j f l m part
part-told phases.Before j f l m before part behind t w =
    let none = w.none in
    subst (λ (es : List DumpEvent). Part-told j f l m es) (sym w.no_part) (record {
      judged = none;
      says = says-none j.start j.judged j.broken (found_on l m []) f.verdict none t.says;
      stamp = stamp-none j.start j.judged j.broken f.verdict none t.says;
      answers = w.follows.answers;
    })
part-told phases.Inside j f l m before part behind t w = judged-told j f l m part t w.0
part-told phases.After j f l m before part behind t w = judged-told j f l m part t w.0

pub found-in : (j : Judging) (f : Judged) (p : Part) (m : Marks) (es : List DumpEvent) → Stands j p m es → Tells j f
    → IsFoundIn f p m es
found-in j f p m es s t =
    let l = later_at p s.before in
    let told = part-told j.phase j f l m s.before s.part s.behind t s.stage in
    let later : f.is_later ≡ l =
    t.is_later ∙ ap (λ (q : Part). begins_later q.begin j.start j.has_stopped) s.asked
    ∙ ap (λ n. begins_later p.begin n j.has_stopped) s.start
    ∙ ap (λ b. begins_later p.begin (clocks_of s.before) b) s.has_stopped in
    let start : f.start ≡ clocks_of s.before = t.start ∙ s.start in
    record {
      before = s.before;
      part = s.part;
      behind = s.behind;
      asked = t.part ∙ s.asked;
      parted = s.parted;
      start = start;
      judged = t.judged ∙ told.judged;
      clocks = t.clocks ∙ ap (λ n. n + j.judged + j.after) (sym t.start) ∙ ap (λ n. f.start + n + j.after) (sym t.judged)
          ∙ ap (λ n. f.start + f.judged + n) s.after;
      is_later = later ∙ ap (λ n. begins_later p.begin n (has_stopped s.before)) (sym start);
      says = subst (λ (b : Bool). Says f.start f.judged (found_on b m (samples_among s.part)) f.verdict) (sym later)
          (subst (λ n. Says f.start n (found_on l m (samples_among s.part)) f.verdict) (sym t.judged)
          (subst (λ n. Says n j.judged (found_on l m (samples_among s.part)) f.verdict) (sym t.start) told.says));
      stamp = subst (λ n. HasStamp n s.part f.verdict) (sym t.start) told.stamp;
      answers_before = t.answers ∙ told.answers;
    }
