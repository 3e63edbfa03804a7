-- The verdict of coherence, by the verdict of the phase rules and that of the rules of ownership.
use Rattle.std.proofs.Common.{ℕ, zero, suc, [], ◌∷◌, ◌+◌, ◌<◌, ◌≤◌, ◌≡◌, true, false, cond, List, Option, Some, None, length, nat_lt, take}
use Rattle.std.proofs.Common.{refl, sym, ap, ◌∙◌, arith, inl, inr}
use Rattle.std.specs.Prelude.{slice_get}
use Rattle.std.proofs.lemmas.List.{length-take-le}
use Rattle.std.proofs.lemmas.Bool.{and_parts, both_ways, cases_lt, false_from_ne_true, le-ltb, leb-true, lt-ltb}
use Rattle.fsb_signal.specs.declared.marks.Marks.{Marks}
use Rattle.fsb_trace.specs.At.{Trace}
use Rattle.fsb_trace.specs.Agree.{AgreeTo}
use Rattle.fsb_trace.specs.Rules.{breaks}
use Rattle.fsb_trace.specs.Verdict.{is_broken, verdict}
use Rattle.fsb_trace.proofs.Interface.{AgreeTo-less, verdict-least, verdict-none, verdict-stays}
use Rattle.fsb_trace.proofs.RuleSteps.{breaks-past}
use Rattle.fsb_trace.proofs.VerdictLaws.{is_broken-agree}
use Rattle.fsb_owners.specs.Joint.{Joint}
use Rattle.fsb_owners.specs.Rules.{is_ownership_broken, ownership_verdict}
use Rattle.fsb_owners.proofs.LeastLaws.{least_broken-least, least_broken-none, least_broken-stays}
use Rattle.fsb_owners.proofs.VerdictLaws.{broken-agree}
use Rattle.fsb_owner_verdict.specs.Coherence.{coherence_verdict, earlier_of, is_any_broken}
use Rattle.fsb_owner_verdict.proofs.Unique.{least_broken-below, least_broken-is, least_broken-off}

slice_get-take : (n : ℕ) (w : Trace) (c : ℕ) → c < n → slice_get (take n w) c ≡ slice_get w c
slice_get-take zero w c l = absurd (omega (arith, l))
slice_get-take (suc n) [] c l = refl
slice_get-take (suc n) (x ∷ w) zero l = refl
slice_get-take (suc n) (x ∷ w) (suc c) l = slice_get-take n w c (omega (arith, l))

-- the rules of each kind

any_low : (m : Marks) (first : List Joint) (w : Trace) (c j : ℕ) → j < 21 → is_any_broken m first w c j ≡ is_broken m w c j
unfolding is_any_broken
any_low m first w c j l = rw (lt-ltb j 21 l) refl

any_high : (m : Marks) (first : List Joint) (w : Trace) (c j : ℕ) → 21 ≤ j
    → is_any_broken m first w c j ≡ is_ownership_broken first w c j
unfolding is_any_broken
any_high m first w c j l = rw (le-ltb j 21 l) refl

-- there are twenty phase rules
phase_low : (m : Marks) (w : Trace) (c j : ℕ) → is_broken m w c j ≡ true → j < 21
unfolding is_broken
phase_low m w c j t =
    elim (cases_lt j 21) [
      | inl low ↦ low
      | inr high ↦
          let p = and_parts (nat_lt c (length w)) (breaks m (take (c + 1) w) c j) t in
          absurd (both_ways _ (breaks-past m (take (c + 1) w) c j (omega (arith, high))) p.1)
    ]

-- they begin with 21
owner_high : (first : List Joint) (w : Trace) (c j : ℕ) → is_ownership_broken first w c j ≡ true → 21 ≤ j
unfolding is_ownership_broken
owner_high first w c j t = leb-true 21 j (and_parts _ _ (and_parts _ _ t).0).1

owner_low : (first : List Joint) (w : Trace) (c j : ℕ) → j < 21 → is_ownership_broken first w c j ≡ false
owner_low first w c j l = false_from_ne_true _ (λ t. absurd (let h = owner_high first w c j t in omega (arith, h, l)))

pub any_agree : (m : Marks) (first : List Joint) (w v : Trace) (c j : ℕ) → AgreeTo (c + 1) w v
    → is_any_broken m first w c j ≡ is_any_broken m first v c j
any_agree m first w v c j a =
    elim (cases_lt j 21) [
      | inl low ↦
          any_low m first w c j low ∙ is_broken-agree m w v c j a ∙ sym (any_low m first v c j low)
      | inr high ↦
          any_high m first w c j high ∙ broken-agree first w v c j a ∙ sym (any_high m first v c j high)
    ]

pub coherence-stays : (n : ℕ) (m : Marks) (first : List Joint) (w v : Trace) (c j : ℕ) → AgreeTo n w v → c < n
    → coherence_verdict m first w ≡ Some (c, j) → coherence_verdict m first v ≡ Some (c, j)
unfolding coherence_verdict
coherence-stays n m first w v c j a l e =
    least_broken-stays (is_any_broken m first w) (is_any_broken m first v) 32 (length w) (length v) c j
    (λ d i below. any_agree m first w v d i (AgreeTo-less n (d + 1) w v (omega (arith, l, below)) a))
    (omega (arith, l, a.right)) e

-- what a verdict of each kind says

module _ (m : Marks) (first : List Joint) (w : Trace) where
  -- no phase rule is broken before c
  abbrev NoPhase : ℕ → Type 0
  NoPhase c = (d k : ℕ) → d < c → k < 21 → is_broken m w d k ≡ false

  -- no rule of ownership is broken before c
  abbrev NoOwner : ℕ → Type 0
  NoOwner c = (d k : ℕ) → d < c → k < 32 → is_ownership_broken first w d k ≡ false

  none_before : (c : ℕ) → NoPhase c → NoOwner c → (d k : ℕ) → d < c → k < 32 → is_any_broken m first w d k ≡ false
  none_before c phase owner d k l n =
      elim (cases_lt k 21) [
        | inl low ↦ any_low m first w d k low ∙ phase d k l low
        | inr high ↦ any_high m first w d k high ∙ owner d k l n
      ]

  phase_first : (c j : ℕ) → verdict m w ≡ Some (c, j) → NoOwner c → coherence_verdict m first w ≡ Some (c, j)
  unfolding coherence_verdict
  phase_first c j e owner =
      let h = verdict-least m w c j e in
      let low = phase_low m w c j h.1 in
      least_broken-is (is_any_broken m first w) 32 (length w) c j h.0 (omega (arith, low))
      (any_low m first w c j low ∙ h.1)
      (λ k less. any_low m first w c k (omega (arith, less, low)) ∙ h.2 k less)
      (none_before c (λ d k l n. h.3 d k l n) owner)

  owner_first : (c j : ℕ) → ownership_verdict first w ≡ Some (c, j) → NoPhase (c + 1)
      → coherence_verdict m first w ≡ Some (c, j)
  unfolding coherence_verdict ownership_verdict
  owner_first c j e phase =
      let h = least_broken-least (is_ownership_broken first w) 32 (length w) c j e in
      let high = owner_high first w c j h.1 in
      least_broken-is (is_any_broken m first w) 32 (length w) c j h.0
      (least_broken-below (is_ownership_broken first w) 32 (length w) c j e)
      (any_high m first w c j high ∙ h.1)
      (λ k less.
      elim (cases_lt k 21) [
        | inl low ↦ any_low m first w c k low ∙ phase c k (omega arith) low
        | inr above ↦ any_high m first w c k above ∙ h.2 k less
      ])
      (none_before c (λ d k l n. phase d k (omega (arith, l)) n) (λ d k l n. h.3 d k l n))

  -- the clocks of a verdict that is not there
  phase_none : verdict m w ≡ None → (c : ℕ) → NoPhase c
  phase_none e c = λ d k l n. verdict-none m w e d k n

  owner_past : (d k : ℕ) → length w ≤ d → is_ownership_broken first w d k ≡ false
  unfolding is_ownership_broken
  owner_past d k l = rw (le-ltb d (length w) l) refl

  owner_none : ownership_verdict first w ≡ None → (c : ℕ) → NoOwner c
  unfolding ownership_verdict
  owner_none e c = λ d k l n.
      elim (cases_lt d (length w)) [
        | inl inside ↦ least_broken-none (is_ownership_broken first w) 32 (length w) e d k inside n
        | inr past ↦ owner_past d k past
      ]

  both_none : verdict m w ≡ None → ownership_verdict first w ≡ None → coherence_verdict m first w ≡ None
  unfolding coherence_verdict
  both_none e f =
      least_broken-off (is_any_broken m first w) 32 (length w)
      (none_before (length w) (phase_none e (length w)) (owner_none f (length w)))

  phase_before : (c j : ℕ) → verdict m w ≡ Some (c, j) → NoPhase c
  phase_before c j e = λ d k l n. (verdict-least m w c j e).3 d k l n

  owner_before : (c j : ℕ) → ownership_verdict first w ≡ Some (c, j) → NoOwner c
  unfolding ownership_verdict
  owner_before c j e = λ d k l n. (least_broken-least (is_ownership_broken first w) 32 (length w) c j e).3 d k l n

  sooner : (p q : ℕ × ℕ) → verdict m w ≡ Some p → ownership_verdict first w ≡ Some q
      → coherence_verdict m first w ≡ cond (nat_lt q.0 p.0) (Some q) (Some p)
  sooner (c, j) (d, k) e f =
      elim (cases_lt d c) [
        | inl less ↦
            rw (lt-ltb d c less)
            (owner_first d k f (λ b i l n. phase_before c j e b i (omega (arith, l, less)) n))
        | inr more ↦
            rw (le-ltb d c more)
            (phase_first c j e (λ b i l n. owner_before d k f b i (omega (arith, l, more)) n))
      ]

  earlier_cases : (p q : Option (ℕ × ℕ)) → verdict m w ≡ p → ownership_verdict first w ≡ q
      → coherence_verdict m first w ≡ earlier_of p q
  earlier_cases None None e f = both_none e f
  earlier_cases None (Some (d, k)) e f = owner_first d k f (phase_none e (d + 1))
  earlier_cases (Some (c, j)) None e f = phase_first c j e (owner_none f c)
  earlier_cases (Some p) (Some q) e f = sooner p q e f

  pub earlier : coherence_verdict m first w ≡ earlier_of (verdict m w) (ownership_verdict first w)
  earlier = earlier_cases (verdict m w) (ownership_verdict first w) refl refl

  -- the samples up to the clock of a rule of ownership

  first_parts : (c j : ℕ) → coherence_verdict m first w ≡ Some (c, j)
      → (c < length w) × (is_any_broken m first w c j ≡ true) × ((k : ℕ) → k < j → is_any_broken m first w c k ≡ false)
      × ((d k : ℕ) → d < c → k < 32 → is_any_broken m first w d k ≡ false)
  unfolding coherence_verdict
  first_parts c j e = least_broken-least (is_any_broken m first w) 32 (length w) c j e

  no_phase_up_to : (c j d k : ℕ) → coherence_verdict m first w ≡ Some (c, j) → 21 ≤ j → d < c + 1
      → is_broken m w d k ≡ true → ⊥
  no_phase_up_to c j d k e high l t =
      let h = first_parts c j e in
      let low = phase_low m w d k t in
      elim (cases_lt d c) [
        | inl less ↦
            both_ways _ (sym (any_low m first w d k low) ∙ h.3 d k less (omega (arith, low))) t
        | inr more ↦
            let same : d ≡ c = omega (arith, l, more) in
            let here : is_any_broken m first w d k ≡ false =
            ap (λ b. is_any_broken m first w b k) same ∙ h.2 k (omega (arith, low, high)) in
            both_ways _ (sym (any_low m first w d k low) ∙ here) t
      ]

  prefix : (c : ℕ) → c < length w → AgreeTo (c + 1) (take (c + 1) w) w
  prefix c l =
      let size = length-take-le (c + 1) w (omega (arith, l)) in
      record { left = omega (arith, size); right = omega (arith, l); same = λ d n. slice_get-take (c + 1) w d n }

  sound_cases : (c j : ℕ) → coherence_verdict m first w ≡ Some (c, j) → 21 ≤ j → (o : Option (ℕ × ℕ))
      → verdict m (take (c + 1) w) ≡ o → verdict m (take (c + 1) w) ≡ None
  sound_cases c j e high None f = f
  sound_cases c j e high (Some (d, k)) f =
      let size = length-take-le (c + 1) w (omega (arith, (first_parts c j e).0)) in
      let there = verdict-least m (take (c + 1) w) d k f in
      let a = prefix c (first_parts c j e).0 in
      let at : d < c + 1 = omega (arith, there.0, size) in
      let now = verdict-least m w d k (verdict-stays (c + 1) m (take (c + 1) w) w d k a at f) in
      absurd (no_phase_up_to c j d k e high at now.1)

  pub sound_before : (c j : ℕ) → coherence_verdict m first w ≡ Some (c, j) → 21 ≤ j → verdict m (take (c + 1) w) ≡ None
  sound_before c j e high = sound_cases c j e high (verdict m (take (c + 1) w)) refl
