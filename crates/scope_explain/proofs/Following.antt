-- What is said of samples, with one more.
use Rattle.std.proofs.Common.{◌≡◌, ◌∙◌, ℕ, ◌+◌, ◌<◌, ◌≤◌, true, false, Option, Some, None, List, [], ◌∷◌, ◌++◌, length, take, refl, sym, ap, subst, arith}
use Rattle.std.specs.Option.{is_some}
use Rattle.std.proofs.Math.Seq.{take-length}
use Rattle.fsb_count.specs.Clocks.{first_where}
use Rattle.std.proofs.lemmas.List.{take-append-le}
use Rattle.fsb_signal.specs.declared.marks.Marks.{Marks}
use Rattle.fsb_signal.specs.declared.sample.Sample.{Sample}
use Rattle.fsb_trace.specs.At.{Trace}
use Rattle.fsb_trace.specs.Verdict.{verdict}
use Rattle.fsb_trace.proofs.Interface.{AgreeTo-sym, verdict-least, verdict-stays}
use Rattle.fsb_laws.proofs.Interface.{one_more}
use Rattle.fsb_rules.specs.declared.broken.Broken.{Broken}
use Rattle.fsb_rules.specs.Checker.{as_broken}
use Rattle.fsb_rules.proofs.Interface.{as_broken-none}
use Rattle.fsb_reasons.specs.declared.reason.Reason.{Reason}
use Rattle.scope_explain.specs.Reasons.{AreReasonsOf, phase_numbers}
use Rattle.scope_explain.specs.declared.explaining.Explaining.{Explaining}
use Rattle.scope_explain.specs.Explained.{IsExplainedAt}
use Rattle.scope_explain.specs.Standing.{AreFoundAt, Follows, StandsWith}
use Rattle.fsb_recent.specs.declared.recent.Around.{Around}
use Rattle.fsb_recent.specs.Recent.{AreAround}

as_broken-some : (p : Option (ℕ × ℕ)) (b : Broken) → Some b ≡ as_broken p → p ≡ Some (b.clock, b.rule)
unfolding as_broken
as_broken-some None b e = absurd (let no : ⊥ = cc in no)
as_broken-some (Some p) b e =
    let same : b ≡ record { clock = p.0; rule = p.1 } = cc in rw same refl

-- no sample breaks no rule
pub none-first : (m : Marks) → verdict m [] ≡ None
unfolding verdict first_where
none-first m = refl

module _ (m : Marks) (w : Trace) (x : Sample) where
  kept : (c j : ℕ) → verdict m w ≡ Some (c, j) → verdict m (w ++ x ∷ []) ≡ Some (c, j)
  kept c j e =
      verdict-stays (length w) m w (w ++ x ∷ []) c j (one_more w x).agree (verdict-least m w c j e).0 e

  not-before : (c j : ℕ) → verdict m w ≡ None → verdict m (w ++ x ∷ []) ≡ Some (c, j) → c < length w → ⊥
  not-before c j none e less =
      let there : verdict m w ≡ Some (c, j) =
      verdict-stays (length w) m (w ++ x ∷ []) w c j (AgreeTo-sym (length w) w (w ++ x ∷ []) (one_more w x).agree) less e in
      let no : ⊥ = cc in no

  at-last : (n a b : ℕ) → a < b → b ≡ n + 1 → (a < n → ⊥) → a ≡ n
  at-last n a b low size never = omega (arith, low, size, never)

  -- a rule that is broken first with the last sample is broken at the last clock
  last : (c j : ℕ) → verdict m w ≡ None → verdict m (w ++ x ∷ []) ≡ Some (c, j) → c ≡ length w
  last c j none e =
      at-last (length w) c (length (w ++ x ∷ [])) (verdict-least m (w ++ x ∷ []) c j e).0 (one_more w x).size
      (not-before c j none e)

  whole : (c : ℕ) → c ≡ length w → take (c + 1) (w ++ x ∷ []) ≡ w ++ x ∷ []
  whole c e =
      ap (λ n. take n (w ++ x ∷ [])) (ap (λ n. n + 1) e ∙ sym (one_more w x).size) ∙ take-length (w ++ x ∷ [])

  all_before : (c : ℕ) → c ≡ length w → take c (w ++ x ∷ []) ≡ w
  all_before c e =
      ap (λ n. take n (w ++ x ∷ [])) e ∙ take-append-le (length w) w (x ∷ []) (omega arith) ∙ take-length w

  -- where the checker tells nothing, no rule is broken
  pub none-broken : (o : Option Broken) → is_some o ≡ false → o ≡ as_broken (verdict m (w ++ x ∷ []))
      → verdict m (w ++ x ∷ []) ≡ None
  none-broken None off e = as_broken-none (verdict m (w ++ x ∷ [])) (sym e)
  none-broken (Some b) off e = absurd (let no : ⊥ = cc in no)

  -- the reasons of the last clock are those of the first broken one
  pub now-explained : (b : Broken) (reasons : List Reason) (around : Around) → verdict m w ≡ None
      → Some b ≡ as_broken (verdict m (w ++ x ∷ [])) → AreFoundAt m (w ++ x ∷ []) w reasons around
      → IsExplainedAt b.clock b.rule reasons around m (w ++ x ∷ [])
  now-explained b reasons around none e are =
      let found = as_broken-some (verdict m (w ++ x ∷ [])) b e in
      let clock = last b.clock b.rule none found in
      let here : AreReasonsOf phase_numbers m (w ++ x ∷ []) b.clock reasons =
      subst (λ n. AreReasonsOf phase_numbers m (w ++ x ∷ []) n reasons) (sym clock) are.reasons_are in
      record {
        found = found;
        reasons_are = subst (λ v. AreReasonsOf phase_numbers m v b.clock reasons) (sym (whole b.clock clock)) here;
        around_are = subst (AreAround around) (sym (all_before b.clock clock)) are.around_are;
      }

  -- what is said of the first broken clock stays
  pub still-explained : (c j : ℕ) (reasons : List Reason) (around : Around) → IsExplainedAt c j reasons around m w
      → IsExplainedAt c j reasons around m (w ++ x ∷ [])
  still-explained c j reasons around s =
      let low : c < length w = (verdict-least m w c j s.found).0 in
      let room : c + 1 ≤ length w = omega (arith, low) in
      record {
        found = kept c j s.found;
        reasons_are = subst (λ v. AreReasonsOf phase_numbers m v c reasons)
            (sym (take-append-le (c + 1) w (x ∷ []) room)) s.reasons_are;
        around_are = subst (AreAround around) (sym (take-append-le c w (x ∷ []) (omega (arith, low)))) s.around_are;
      }

  -- the same of what a machine has found
  pub found-now : (o : Option Broken) (k : Explaining) → is_some o ≡ true → verdict m w ≡ None
      → o ≡ as_broken (verdict m (w ++ x ∷ [])) → AreFoundAt m (w ++ x ∷ []) w k.reasons.items k.around
      → StandsWith o k m (w ++ x ∷ [])
  found-now None k on none e are = absurd (let no : ⊥ = cc in no)
  found-now (Some b) k on none e are = now-explained b k.reasons.items k.around none e are

  pub found-before : (o : Option Broken) (k : Explaining) → is_some o ≡ true → StandsWith o k m w
      → StandsWith o k m (w ++ x ∷ [])
  found-before None k on s = absurd (let no : ⊥ = cc in no)
  found-before (Some b) k on s = still-explained b.clock b.rule k.reasons.items k.around s

  pub found-none : (o : Option Broken) (k : Explaining) → is_some o ≡ false → Follows k m (w ++ x ∷ [])
      → StandsWith o k m (w ++ x ∷ [])
  found-none None k off f = f
  found-none (Some b) k off f = absurd (let no : ⊥ = cc in no)
