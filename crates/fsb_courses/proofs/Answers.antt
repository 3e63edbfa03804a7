-- What HIT# and HITM# say of the other agents.
use Rattle.std.proofs.Common.{ℕ, ◌<◌, ◌≡◌, ◌↔◌, Bool, true, false, ◌&&◌, ◌||◌, not, nat_eq, if◌then◌else◌}
use Rattle.std.proofs.Common.{refl, sym, ◌∙◌, arith, inl, inr}
use Rattle.std.specs.List.{list_any}
use Rattle.std.proofs.lemmas.Bool.{and_from, and_parts, both_ways, eqb-false, false_from_ne_true, ne_eqb, not-true, not_from_false, or_cases}
use Rattle.fsb_line.specs.declared.state.Mesi.{Mesi}
use Rattle.fsb_line.specs.States.{is_held, is_modified}
use Rattle.fsb_owners.specs.Joint.{Joint, agents, has_other_holder, has_other_owner, state_at}
use Rattle.fsb_owners.specs.Possible.{fits_answer}
use Rattle.fsb_courses.specs.Answers.{AnotherHas}
use Rattle.fsb_courses.proofs.Writers.{any_agent}

abbrev passes : (Mesi → Bool) → ℕ → Joint → ℕ → Bool
passes test asker joint a = not (nat_eq a asker) && test (state_at joint a)

one_has : (test : Mesi → Bool) (asker : ℕ) (joint : Joint) (a : ℕ) → a < 4 → passes test asker joint a ≡ true
    → AnotherHas test asker joint
one_has test asker joint a l t =
    let p = and_parts (not (nat_eq a asker)) (test (state_at joint a)) t in
    record { agent = a; one_of_four = l; other = eqb-false a asker (not-true (nat_eq a asker) p.0); has = p.1 }

another_out : (test : Mesi → Bool) (asker : ℕ) (joint : Joint) → list_any (passes test asker joint) agents ≡ true
    → AnotherHas test asker joint
another_out test asker joint t =
    let p = passes test asker joint in
    elim (or_cases (p 0) (p 1 || (p 2 || (p 3 || false))) t) [
      | inl here ↦ one_has test asker joint 0 (omega arith) here
      | inr t ↦ elim (or_cases (p 1) (p 2 || (p 3 || false)) t) [
        | inl here ↦ one_has test asker joint 1 (omega arith) here
        | inr t ↦ elim (or_cases (p 2) (p 3 || false) t) [
          | inl here ↦ one_has test asker joint 2 (omega arith) here
          | inr t ↦ elim (or_cases (p 3) false t) [
            | inl here ↦ one_has test asker joint 3 (omega arith) here
            | inr off ↦ absurd (let bad : ⊥ = cc in bad)
          ]
        ]
      ]
    ]

another_in : (test : Mesi → Bool) (asker : ℕ) (joint : Joint) → AnotherHas test asker joint
    → list_any (passes test asker joint) agents ≡ true
another_in test asker joint h =
    any_agent (passes test asker joint) h.agent h.one_of_four
    (and_from (not (nat_eq h.agent asker)) (test (state_at joint h.agent))
    (not_from_false (nat_eq h.agent asker) (ne_eqb h.agent asker h.other)) h.has)

owner_out : (asker : ℕ) (joint : Joint) → has_other_owner asker joint ≡ true → AnotherHas is_modified asker joint
unfolding has_other_owner
owner_out asker joint t = another_out is_modified asker joint t

owner_in : (asker : ℕ) (joint : Joint) → AnotherHas is_modified asker joint → has_other_owner asker joint ≡ true
unfolding has_other_owner
owner_in asker joint h = another_in is_modified asker joint h

holder_out : (asker : ℕ) (joint : Joint) → has_other_holder asker joint ≡ true → AnotherHas is_held asker joint
unfolding has_other_holder
holder_out asker joint t = another_out is_held asker joint t

holder_in : (asker : ℕ) (joint : Joint) → AnotherHas is_held asker joint → has_other_holder asker joint ≡ true
unfolding has_other_holder
holder_in asker joint h = another_in is_held asker joint h

-- of the four answers one is right
hitm_is : (owner holder hit hitm : Bool)
    → (if owner then hitm && not hit else (if holder then hit && not hitm else not hit && not hitm)) ≡ true → hitm ≡ owner
hitm_is true holder false true t = refl
hitm_is true holder true true t = absurd (let no : ⊥ = cc in no)
hitm_is true holder true false t = absurd (let no : ⊥ = cc in no)
hitm_is true holder false false t = absurd (let no : ⊥ = cc in no)
hitm_is false true true false t = refl
hitm_is false true true true t = absurd (let no : ⊥ = cc in no)
hitm_is false true false hitm t = absurd (let no : ⊥ = cc in no)
hitm_is false false false false t = refl
hitm_is false false false true t = absurd (let no : ⊥ = cc in no)
hitm_is false false true hitm t = absurd (let no : ⊥ = cc in no)

hit_is : (owner holder hit hitm : Bool)
    → (if owner then hitm && not hit else (if holder then hit && not hitm else not hit && not hitm)) ≡ true
    → hit ≡ (not owner && holder)
hit_is true holder false true t = refl
hit_is true holder true true t = absurd (let no : ⊥ = cc in no)
hit_is true holder true false t = absurd (let no : ⊥ = cc in no)
hit_is true holder false false t = absurd (let no : ⊥ = cc in no)
hit_is false true true false t = refl
hit_is false true true true t = absurd (let no : ⊥ = cc in no)
hit_is false true false hitm t = absurd (let no : ⊥ = cc in no)
hit_is false false false hitm t = refl
hit_is false false true hitm t = absurd (let no : ⊥ = cc in no)

pub hitm_says : (hit hitm : Bool) (asker : ℕ) (joint : Joint) → fits_answer hit hitm asker joint ≡ true
    → (hitm ≡ true) ↔ AnotherHas is_modified asker joint
unfolding fits_answer
hitm_says hit hitm asker joint t =
    let same = hitm_is (has_other_owner asker joint) (has_other_holder asker joint) hit hitm t in
    (λ e. owner_out asker joint (sym same ∙ e), λ h. same ∙ owner_in asker joint h)

pub hit_says : (hit hitm : Bool) (asker : ℕ) (joint : Joint) → fits_answer hit hitm asker joint ≡ true
    → (hit ≡ true) ↔ (AnotherHas is_held asker joint × (AnotherHas is_modified asker joint → ⊥))
unfolding fits_answer
hit_says hit hitm asker joint t =
    let owner = has_other_owner asker joint in
    let holder = has_other_holder asker joint in
    let same = hit_is owner holder hit hitm t in (
      λ e.
          let p = and_parts (not owner) holder (sym same ∙ e) in
          (holder_out asker joint p.1, λ h. both_ways owner (not-true owner p.0) (owner_in asker joint h)),
      λ h. same ∙ and_from (not owner) holder (not_from_false owner (false_from_ne_true owner (λ e. h.1 (owner_out asker joint e))))
          (holder_in asker joint h.0),
    )
