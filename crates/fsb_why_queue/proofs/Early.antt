-- Why a request may not be answered, and from when on it may.
use Rattle.std.proofs.Common.{ℕ, zero, suc, ◌+◌, ◌≤◌, ◌≡◌, true, false, cond, ◌&&◌, ◌||◌, not, Option, Some, None}
use Rattle.std.proofs.Common.{refl, sym, ap, subst, ◌∙◌, arith, inl, inr, nat_eq, nat_le, max}
use Rattle.std.proofs.lemmas.Bool.{and_left, and_right, cases_lt, le-leb, leb-true, both_ways, ne_eqb, eqb-true, false_from_ne_true}
use Rattle.std.specs.Option.{option_map}
use Rattle.fsb_count.specs.Options.{greater_of, is_before}
use Rattle.fsb_signal.specs.declared.marks.Marks.{Marks}
use Rattle.fsb_trace.specs.At.{Trace, responds_at}
use Rattle.fsb_trace.specs.Requests.{live_count}
use Rattle.fsb_trace.specs.Snoop.{snoop_end_of}
use Rattle.fsb_trace.specs.Response.{answer_from, end_of, is_clear_before, two_after_snoop}
use Rattle.fsb_trace.specs.Rules.{breaks, is_response_early, may_answer, next_response, phase_rules}
use Rattle.fsb_laws.proofs.Interface.{may_answer-from}
use Rattle.fsb_heads.specs.Heads.{value_before}
use Rattle.fsb_reasons.specs.declared.reason.Wait.{Wait}
use Rattle.fsb_reasons.specs.declared.reason.Wait.TheVariants.{SnoopEnd, NotClear}
use Rattle.fsb_reasons.specs.declared.reason.Reason.{Reason}
use Rattle.fsb_reasons.specs.declared.reason.Reason.TheVariants.{NothingToAnswer, ResponseEarly}
use Rattle.fsb_reasons.specs.RuleOf.{rule_of}
use Rattle.fsb_reasons.specs.Holds.{Waits}
use Rattle.fsb_why.specs.Explains.{Explains, IsReason, Tells}
use Rattle.fsb_why_queue.specs.declared.next.Next.{Next}
use Rattle.fsb_why_queue.specs.Queue.{is_queue_rule}
use Rattle.fsb_why_queue.specs.Next.{IsNext, SaysWait}

pub clear-is : (v : Trace) (i c : ℕ) (ended : Option ℕ) → ended ≡ value_before (end_of v) i
    → (nat_eq i 0 || is_before ended c) ≡ is_clear_before v i c
unfolding value_before is_clear_before
clear-is v zero c ended e = refl
clear-is v (suc i) c ended e = rw (ne_eqb (suc i) 0 (λ k. omega (arith, k))) (ap (λ o. is_before o c) e)

pub wait-near : (v : Trace) (c i s : ℕ) → Some s ≡ snoop_end_of v i → nat_le (s + 2) c ≡ false → SaysWait v c i (Some (SnoopEnd s))
wait-near v c i s e f =
    elim (cases_lt c (s + 2)) [
      | inl l ↦ (sym e, l)
      | inr l ↦ absurd (both_ways _ f (le-leb (s + 2) c l))
    ]

pub wait-over : (v : Trace) (c i s : ℕ) → Some s ≡ snoop_end_of v i → nat_le (s + 2) c ≡ true
    → is_clear_before v i c ≡ true → SaysWait v c i None
wait-over v c i s e t clear =
    may_answer-from v c i (record { snoop = s; is_snoop = sym e; before = leb-true (s + 2) c t; clear = clear })

pub wait-busy : (v : Trace) (c i s : ℕ) (ended : Option ℕ) → Some s ≡ snoop_end_of v i → nat_le (s + 2) c ≡ true
    → ended ≡ value_before (end_of v) i → is_clear_before v i c ≡ false → SaysWait v c i (Some (NotClear ended))
unfolding value_before is_clear_before
wait-busy v c zero s ended e t before f = absurd (let no : ⊥ = cc in no)
wait-busy v c (suc j) s ended e t before f =
    ((s, sym e, leb-true (s + 2) c t), (j, refl, sym before, ap (λ o. is_before o c) before ∙ f))

from-both : (v : Trace) (j s : ℕ) (ended o : Option ℕ) → Some s ≡ snoop_end_of v (suc j) → ended ≡ o → end_of v j ≡ o
    → option_map (λ t. max (s + 2) (t + 1)) ended
    ≡ greater_of (option_map (λ s. s + 2) (snoop_end_of v (suc j))) (option_map (λ t. t + 1) (end_of v j))
unfolding greater_of
from-both v j s ended None e f g = rw (sym e, f, g) refl
from-both v j s ended (Some t) e f g = rw (sym e, f, g) refl

pub from-is : (v : Trace) (i s : ℕ) (ended : Option ℕ) → Some s ≡ snoop_end_of v i → ended ≡ value_before (end_of v) i
    → cond (nat_eq i 0) (Some (s + 2)) (option_map (λ t. max (s + 2) (t + 1)) ended) ≡ answer_from v i
unfolding value_before answer_from two_after_snoop greater_of
from-is v zero s ended e before = rw (sym e) refl
from-is v (suc j) s ended e before = rw (ne_eqb (suc j) 0 (λ k. omega (arith, k))) (from-both v j s ended (end_of v j) e before refl)

pub from-none : (v : Trace) (i : ℕ) → None ≡ snoop_end_of v i → None ≡ answer_from v i
unfolding answer_from two_after_snoop greater_of
from-none v zero e = rw (sym e) refl
from-none v (suc j) e = rw (sym e) refl

-- 13

pub early-kept : (m : Marks) (v : Trace) (c i : ℕ) → i ≡ next_response v c → may_answer v c i ≡ true → breaks m v c 13 ≡ false
unfolding breaks phase_rules is_response_early
early-kept m v c i e t = and_right _ _ (ap not (subst (λ k. may_answer v c k ≡ true) e t))

pub early-quiet : (m : Marks) (v : Trace) (c : ℕ) → responds_at v c ≡ false → breaks m v c 13 ≡ false
unfolding breaks phase_rules is_response_early
early-quiet m v c f = and_left _ _ f

pub early-is : (m : Marks) (v : Trace) (c : ℕ) (next : Next) (w : Wait) (earliest : Option ℕ) → IsNext next v c
    → responds_at v c ≡ true → Waits v c next.request.number w → earliest ≡ answer_from v next.request.number
    → IsReason m v c 13 (ResponseEarly next.request w earliest)
unfolding rule_of
early-is m v c next w earliest n t h e = record {
  rule = refl;
  holds = (t, (n.number, n.clock), h, sym e);
}

pub nothing-is : (m : Marks) (v : Trace) (c number : ℕ) → responds_at v c ≡ true → number ≡ next_response v c
    → live_count v ≤ next_response v c → IsReason m v c 13 (NothingToAnswer number)
unfolding rule_of
nothing-is m v c number t e l = record {
  rule = refl;
  holds = (t, (e, subst (λ k. live_count v ≤ k) (sym e) l));
}

-- which rules are explained

pub explains-at : (m : Marks) (v : Trace) (c j k : ℕ) (o : Option Reason) → j ≡ k → Explains m v c k o
    → Tells m v c j (is_queue_rule j && breaks m v c j) o
explains-at m v c j k None e h = and_right _ _ (ap (breaks m v c) e ∙ h)
explains-at m v c j k (Some reason) e h = subst (λ i. IsReason m v c i reason) (sym e) h

off : (j k : ℕ) → (j ≡ k → ⊥) → nat_eq j k ≡ false
off j k n = false_from_ne_true _ (λ t. n (eqb-true j k t))

not_explained : (j : ℕ) → (j ≡ 4 → ⊥) → (j ≡ 11 → ⊥) → (j ≡ 12 → ⊥) → (j ≡ 13 → ⊥) → (j ≡ 14 → ⊥) → (j ≡ 15 → ⊥)
    → (j ≡ 16 → ⊥) → (j ≡ 18 → ⊥) → is_queue_rule j ≡ false
unfolding is_queue_rule
not_explained j z a b d e f g i =
    rw (off j 4 z, off j 11 a, off j 12 b, off j 13 d, off j 14 e, off j 15 f, off j 16 g, off j 18 i) refl

pub unexplained : (m : Marks) (v : Trace) (c j : ℕ) → (j ≡ 4 → ⊥) → (j ≡ 11 → ⊥) → (j ≡ 12 → ⊥) → (j ≡ 13 → ⊥)
    → (j ≡ 14 → ⊥) → (j ≡ 15 → ⊥) → (j ≡ 16 → ⊥) → (j ≡ 18 → ⊥) → (is_queue_rule j && breaks m v c j) ≡ false
unexplained m v c j z a b d e f g i =
    and_left (is_queue_rule j) (breaks m v c j) (not_explained j z a b d e f g i)
