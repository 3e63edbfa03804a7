-- The verdict of coherence of samples, with one more.
use Rattle.std.proofs.Common.{◌≡◌, ◌∙◌, ℕ, ◌+◌, ◌<◌, true, false, Option, Some, None, List, [], ◌∷◌, ◌++◌, length, refl, sym, ap, subst, arith, inl, inr}
use Rattle.std.specs.Option.{is_some}
use Rattle.std.proofs.lemmas.Bool.{cases_lt, le-ltb, lt-ltb}
use Rattle.fsb_count.specs.Clocks.{first_where}
use Rattle.fsb_signal.specs.declared.marks.Marks.{Marks}
use Rattle.fsb_signal.specs.declared.sample.Sample.{Sample}
use Rattle.fsb_trace.specs.At.{Trace}
use Rattle.fsb_trace.specs.Verdict.{verdict}
use Rattle.fsb_trace.proofs.Interface.{AgreeTo-sym, verdict-least}
use Rattle.fsb_laws.proofs.Interface.{one_more}
use Rattle.fsb_rules.specs.declared.broken.Broken.{Broken}
use Rattle.fsb_rules.specs.Checker.{as_broken}
use Rattle.fsb_owners.specs.Joint.{Joint}
use Rattle.fsb_owners.specs.Least.{least_broken}
use Rattle.fsb_owners.specs.Rules.{ownership_verdict}
use Rattle.fsb_owners.proofs.LeastLaws.{least_broken-least}
use Rattle.fsb_owner_judge.specs.declared.judge.OwnerBroken.{OwnerBroken}
use Rattle.fsb_owner_judge.specs.Judge.{as_owner_broken}
use Rattle.fsb_owner_verdict.specs.Coherence.{coherence_verdict, earlier_of, is_any_broken}
use Rattle.fsb_owner_verdict.proofs.Earlier.{coherence-stays, earlier}
use Rattle.scope_coherence.specs.declared.cohering.Cohering.{Cohering}
use Rattle.scope_coherence.specs.declared.cohering.Incoherent.{Incoherent}
use Rattle.scope_coherence.specs.Cohering.{Follows, StandsWith}
use Rattle.scope_coherence.specs.Found.{pair_of}

as_broken-some : (p : Option (ℕ × ℕ)) (b : Broken) → Some b ≡ as_broken p → p ≡ Some (b.clock, b.rule)
unfolding as_broken
as_broken-some None b e = absurd (let no : ⊥ = cc in no)
as_broken-some (Some p) b e =
    let same : b ≡ record { clock = p.0; rule = p.1 } = cc in rw same refl

as_owner-some : (p : Option (ℕ × ℕ)) (b : OwnerBroken) → Some b ≡ as_owner_broken p → p ≡ Some (b.clock, b.rule)
unfolding as_owner_broken
as_owner-some None b e = absurd (let no : ⊥ = cc in no)
as_owner-some (Some p) b e =
    let same : b ≡ record { clock = p.0; rule = p.1 } = cc in rw same refl

as_owner-none : (p : Option (ℕ × ℕ)) → None ≡ as_owner_broken p → p ≡ None
unfolding as_owner_broken
as_owner-none None e = refl
as_owner-none (Some p) e = absurd (let no : ⊥ = cc in no)

as_broken-none : (p : Option (ℕ × ℕ)) → None ≡ as_broken p → p ≡ None
unfolding as_broken
as_broken-none None e = refl
as_broken-none (Some p) e = absurd (let no : ⊥ = cc in no)

-- no sample breaks no rule
pub none-first : (m : Marks) (first : List Joint) → coherence_verdict m first [] ≡ None
unfolding coherence_verdict least_broken first_where
none-first m first = refl

-- the clock of a verdict is one of the samples
within : (m : Marks) (first : List Joint) (w : Trace) (c j : ℕ) → coherence_verdict m first w ≡ Some (c, j) → c < length w
unfolding coherence_verdict
within m first w c j e = (least_broken-least (is_any_broken m first w) 32 (length w) c j e).0

module _ (m : Marks) (first : List Joint) (w : Trace) (x : Sample) where
  -- a verdict stays
  kept : (c j : ℕ) → coherence_verdict m first w ≡ Some (c, j) → coherence_verdict m first (w ++ x ∷ []) ≡ Some (c, j)
  kept c j e = coherence-stays (length w) m first w (w ++ x ∷ []) c j (one_more w x).agree (within m first w c j e) e

  -- where there was none, there is none at a clock before the last
  not-before : (c j : ℕ) → coherence_verdict m first w ≡ None → coherence_verdict m first (w ++ x ∷ []) ≡ Some (c, j)
      → c < length w → ⊥
  not-before c j none e less =
      let there : coherence_verdict m first w ≡ Some (c, j) =
      coherence-stays (length w) m first (w ++ x ∷ []) w c j (AgreeTo-sym (length w) w (w ++ x ∷ []) (one_more w x).agree)
      less e in
      let no : ⊥ = cc in no

  -- a phase rule that is broken first with the last sample comes before each rule of ownership
  phase-cases : (c j : ℕ) (o : Option (ℕ × ℕ)) → coherence_verdict m first w ≡ None → c < length w + 1
      → coherence_verdict m first (w ++ x ∷ []) ≡ earlier_of (Some (c, j)) o
      → coherence_verdict m first (w ++ x ∷ []) ≡ Some (c, j)
  phase-cases c j None none low e = e
  phase-cases c j (Some (d, k)) none low e =
      elim (cases_lt d c) [
        | inl less ↦ absurd (not-before d k none (rw (lt-ltb d c less) at e) (omega (arith, less, low)))
        | inr more ↦ rw (le-ltb d c more) at e
      ]

  pub phase-now : (b : Broken) → coherence_verdict m first w ≡ None → Some b ≡ as_broken (verdict m (w ++ x ∷ []))
      → coherence_verdict m first (w ++ x ∷ []) ≡ Some (b.clock, b.rule)
  phase-now b none e =
      let found = as_broken-some (verdict m (w ++ x ∷ [])) b e in
      let low : b.clock < length w + 1 =
      subst (λ n. b.clock < n) (one_more w x).size (verdict-least m (w ++ x ∷ []) b.clock b.rule found).0 in
      phase-cases b.clock b.rule (ownership_verdict first (w ++ x ∷ [])) none low
      (earlier m first (w ++ x ∷ []) ∙ ap (λ p. earlier_of p (ownership_verdict first (w ++ x ∷ []))) found)

  -- where no phase rule is broken, the verdict is that of ownership
  alone : verdict m (w ++ x ∷ []) ≡ None
      → coherence_verdict m first (w ++ x ∷ []) ≡ ownership_verdict first (w ++ x ∷ [])
  alone none = earlier m first (w ++ x ∷ []) ∙ ap (λ p. earlier_of p (ownership_verdict first (w ++ x ∷ []))) none

  pub no-phase : None ≡ as_broken (verdict m (w ++ x ∷ [])) → verdict m (w ++ x ∷ []) ≡ None
  no-phase e = as_broken-none (verdict m (w ++ x ∷ [])) e

  pub owner-now : (b : OwnerBroken) → verdict m (w ++ x ∷ []) ≡ None
      → Some b ≡ as_owner_broken (ownership_verdict first (w ++ x ∷ []))
      → coherence_verdict m first (w ++ x ∷ []) ≡ Some (b.clock, b.rule)
  owner-now b none e = alone none ∙ as_owner-some (ownership_verdict first (w ++ x ∷ [])) b e

  pub none-now : verdict m (w ++ x ∷ []) ≡ None → None ≡ as_owner_broken (ownership_verdict first (w ++ x ∷ []))
      → coherence_verdict m first (w ++ x ∷ []) ≡ None
  none-now none e = alone none ∙ as_owner-none (ownership_verdict first (w ++ x ∷ [])) e

  -- what was found stays
  pub found-before : (o : Option Incoherent) (k : Cohering) → is_some o ≡ true → StandsWith o k m first w
      → StandsWith o k m first (w ++ x ∷ [])
  found-before None k on s = absurd (let no : ⊥ = cc in no)
  found-before (Some b) k on s = kept b.clock b.rule s

-- the samples are followed where nothing was found
pub followed : (o : Option Incoherent) (k : Cohering) (m : Marks) (first : List Joint) (w : Trace) → is_some o ≡ false
    → StandsWith o k m first w → Follows k m first w
followed None k m first w off s = s
followed (Some b) k m first w off s = absurd (let no : ⊥ = cc in no)

-- what is told of what was found
pub told : (o : Option Incoherent) (k : Cohering) (m : Marks) (first : List Joint) (w : Trace) → StandsWith o k m first w
    → pair_of o ≡ coherence_verdict m first w
told None k m first w s = sym s.unbroken
told (Some b) k m first w s = sym s

pub stands-none : (o : Option Incoherent) (k : Cohering) (m : Marks) (first : List Joint) (w : Trace) → o ≡ None
    → Follows k m first w → StandsWith o k m first w
stands-none None k m first w e f = f
stands-none (Some b) k m first w e f = absurd (let no : ⊥ = cc in no)
