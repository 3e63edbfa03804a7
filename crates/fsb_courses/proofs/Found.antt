-- The clock of a verdict is the first one that is not explained.
use Rattle.std.proofs.Common.{ℕ, ◌+◌, ◌-◌, ◌<◌, ◌≤◌, ◌≡◌, false, ◌&&◌, nat_le, nat_lt, length, take, List, Some}
use Rattle.std.proofs.Common.{refl, sym, ◌∙◌, arith, inl, inr}
use Rattle.std.specs.Prelude.{slice_get}
use Rattle.std.proofs.lemmas.Bool.{and_left, and_right, both_ways, cases_lt, le-ltb, lt-leb, lt-ltb}
use Rattle.fsb_count.specs.Options.{is_some_and}
use Rattle.fsb_signal.specs.declared.marks.Marks.{Marks}
use Rattle.fsb_trace.specs.At.{Trace}
use Rattle.fsb_trace.specs.Verdict.{is_broken}
use Rattle.fsb_owners.specs.Joint.{Joint}
use Rattle.fsb_owners.specs.Rules.{is_none_left, is_ownership_broken, ownership_rules}
use Rattle.fsb_owners.proofs.LeastLaws.{least_broken-least}
use Rattle.fsb_owner_laws.specs.Losses.{AreCoherent}
use Rattle.fsb_owner_verdict.specs.Coherence.{coherence_verdict, is_any_broken}
use Rattle.fsb_courses.specs.Coherent.{AreCoherentlyMade}
use Rattle.fsb_courses.proofs.Explaining.{unbroken_explained}
use Rattle.fsb_courses.proofs.Fits.{explained_unbroken}
use Rattle.fsb_courses.proofs.Prefixes.{phases_before}

phase_rule : (m : Marks) (first : List Joint) (w : Trace) (c j : ℕ) → j < 21 → is_any_broken m first w c j ≡ is_broken m w c j
unfolding is_any_broken
phase_rule m first w c j l = rw (lt-ltb j 21 l) refl

owner_rule : (m : Marks) (first : List Joint) (w : Trace) (c j : ℕ) → 21 ≤ j
    → is_any_broken m first w c j ≡ is_ownership_broken first w c j
unfolding is_any_broken
owner_rule m first w c j l = rw (le-ltb j 21 l) refl

no_owner_rule : (first : List Joint) (w : Trace) (c j : ℕ) → j < 21 → is_ownership_broken first w c j ≡ false
unfolding is_ownership_broken
no_owner_rule first w c j l =
    and_left (nat_lt c (length w) && nat_le 21 j)
    (is_some_and (slice_get (ownership_rules first) (j - 21)) (λ rule. rule (take (c + 1) w) c))
    (and_right (nat_lt c (length w)) (nat_le 21 j) (lt-leb 21 j l))

pub before_explained : (m : Marks) (first : List Joint) (w : Trace) (c j d : ℕ) → AreCoherent first → is_none_left first ≡ false
    → coherence_verdict m first w ≡ Some (c, j) → d < c → AreCoherentlyMade first w d
unfolding coherence_verdict
before_explained m first w c j d a n e l =
    let h = least_broken-least (is_any_broken m first w) 32 (length w) c j e in
    let within = h.0 in
    unbroken_explained m first w d a n (record {
      within = omega (arith, l, within);
      phases = λ b k. phases_before m w b (omega (arith, k, l, within))
          (λ x i f g. sym (phase_rule m first w x i g) ∙ h.3 x i (omega (arith, f, k, l)) (omega (arith, g)));
      rules = λ b i k low.
          elim (cases_lt i 21) [
            | inl phase ↦ no_owner_rule first w b i phase
            | inr owner ↦ sym (owner_rule m first w b i owner) ∙ h.3 b i (omega (arith, k, l)) low
          ];
    })

pub there_unexplained : (m : Marks) (first : List Joint) (w : Trace) (c j : ℕ) → coherence_verdict m first w ≡ Some (c, j)
    → 21 ≤ j → AreCoherentlyMade first w c → ⊥
unfolding coherence_verdict
there_unexplained m first w c j e l k =
    let h = least_broken-least (is_any_broken m first w) 32 (length w) c j e in
    both_ways (is_ownership_broken first w c j) (explained_unbroken first w c j k) (sym (owner_rule m first w c j l) ∙ h.1)
