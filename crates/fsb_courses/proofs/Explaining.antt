-- No rule is broken exactly where the trace is explained.
use Rattle.std.proofs.Common.{ℕ, ◌+◌, ◌<◌, ◌≡◌, ◌-◌, ◌↔◌, Bool, true, false, length, take, nat_lt, List, Option, Some, None, if◌then◌else◌}
use Rattle.std.proofs.Common.{refl, sym, ap, ◌∙◌, subst, arith}
use Rattle.std.proofs.lemmas.List.{take_all}
use Rattle.fsb_signal.specs.declared.marks.Marks.{Marks}
use Rattle.fsb_trace.specs.At.{Trace}
use Rattle.fsb_trace.specs.Verdict.{verdict}
use Rattle.fsb_trace.proofs.Interface.{verdict-none}
use Rattle.fsb_owners.specs.Joint.{Joint}
use Rattle.fsb_owners.specs.Rules.{is_none_left, is_ownership_broken, ownership_verdict}
use Rattle.fsb_owners.proofs.LeastLaws.{least_broken-none}
use Rattle.fsb_owners.specs.Shown.{is_spoiled}
use Rattle.fsb_owner_laws.specs.Losses.{AreCoherent}
use Rattle.fsb_owner_verdict.specs.Coherence.{coherence_verdict, earlier_of}
use Rattle.fsb_owner_verdict.proofs.Earlier.{earlier}
use Rattle.fsb_owner_verdict.proofs.Unique.{least_broken-off}
use Rattle.fsb_courses.specs.Courses.{HasCourse}
use Rattle.fsb_courses.specs.Coherent.{CouldBeMade, AreCoherentlyMade}
use Rattle.fsb_courses.proofs.Ends.{some_course}
use Rattle.fsb_courses.proofs.Fits.{explained_unbroken}
use Rattle.fsb_courses.proofs.Kept.{AreUnbroken, kept}
use Rattle.fsb_courses.proofs.Prefixes.{phases_before}
use Rattle.fsb_courses.proofs.Turning.{all_off, turns}

pub unbroken_explained : (m : Marks) (first : List Joint) (w : Trace) (c : ℕ) → AreCoherent first → is_none_left first ≡ false
    → AreUnbroken m first w c → AreCoherentlyMade first w c
unbroken_explained m first w c a n u line s = record {
  turns = turns first (take (c + 1) w) line c s (all_off first w c u.within (λ j l. u.rules c j (omega arith) l));
  course = some_course first (take (c + 1) w) line (c + 1) a (kept m first w line c a n u s);
}

could_be_made : (m : Marks) (first : List Joint) (w : Trace) → AreCoherent first → is_none_left first ≡ false
    → verdict m w ≡ None → ownership_verdict first w ≡ None → CouldBeMade first w
unfolding ownership_verdict
could_be_made m first w a n p o c l =
    unbroken_explained m first w c a n (record {
      within = l;
      phases = λ d b. phases_before m w d (omega (arith, b, l)) (λ e k f g. verdict-none m w p e k g);
      rules = λ d j b k. least_broken-none (is_ownership_broken first w) 32 (length w) o d j (omega (arith, b, l)) k;
    })

pub breaks_none : (first : List Joint) (w : Trace) → CouldBeMade first w → ownership_verdict first w ≡ None
unfolding ownership_verdict
breaks_none first w h =
    least_broken-off (is_ownership_broken first w) 32 (length w) (λ d k l b. explained_unbroken first w d k (h d l))

pub ownership_explained : (m : Marks) (first : List Joint) (w : Trace) → AreCoherent first → is_none_left first ≡ false
    → verdict m w ≡ None → (ownership_verdict first w ≡ None) ↔ CouldBeMade first w
ownership_explained m first w a n p = (λ o. could_be_made m first w a n p o, λ h. breaks_none first w h)

-- of both kinds of rules none is broken
some_earlier : (b : Bool) (p q : ℕ × ℕ) → (if b then Some q else Some p) ≡ None → ⊥
some_earlier true p q e = cc
some_earlier false p q e = cc

none_earlier : (p q : Option (ℕ × ℕ)) → earlier_of p q ≡ None → (p ≡ None) × (q ≡ None)
none_earlier None q e = (refl, e)
none_earlier (Some p) None e = absurd (let no : ⊥ = cc in no)
none_earlier (Some p) (Some q) e = absurd (some_earlier (nat_lt q.0 p.0) p q e)

both_none : (p q : Option (ℕ × ℕ)) → p ≡ None → q ≡ None → earlier_of p q ≡ None
both_none p q e f = rw (e, f) refl

pub coherence_explained : (m : Marks) (first : List Joint) (w : Trace) → AreCoherent first → is_none_left first ≡ false
    → (coherence_verdict m first w ≡ None) ↔ ((verdict m w ≡ None) × CouldBeMade first w)
coherence_explained m first w a n = (
  λ e.
      let p = none_earlier (verdict m w) (ownership_verdict first w) (sym (earlier m first w) ∙ e) in
      (p.0, could_be_made m first w a n p.0 p.1),
  λ h. earlier m first w ∙ both_none (verdict m w) (ownership_verdict first w) h.0 (breaks_none first w h.1),
)

-- one course goes through a whole trace
pub one_course : (first : List Joint) (w : Trace) (line : ℕ) → CouldBeMade first w → 0 < length w → is_spoiled w line ≡ false
    → HasCourse first w line (length w)
one_course first w line h l s =
    let c = length w - 1 in
    let n : c + 1 ≡ length w = omega (arith, l) in
    let all : take (c + 1) w ≡ w = take_all (c + 1) w (omega (arith, n)) in
    let k = (h c (omega (arith, n)) line (ap (λ v. is_spoiled v line) all ∙ s)).course in
    subst (λ k. HasCourse first w line k) n (subst (λ v. HasCourse first v line (c + 1)) all k)
