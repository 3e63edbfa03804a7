-- Whether the next response may come at the new clock, and whether its target is ready.
use Rattle.std.proofs.Common.{ℕ, zero, suc, ◌+◌, ◌<◌, ◌≤◌, ◌≡◌, true, false, nat_le, Option, Some, None, is_none}
use Rattle.std.proofs.Common.{length, refl, sym, ap, ◌∙◌, arith, inl, inr}
use Rattle.std.proofs.lemmas.Bool.{cases_lt, and_parts, leb-true, lt-leb, lt-ltb, le-ltb}
use Rattle.fsb_count.specs.Options.{is_some_and, is_before}
use Rattle.fsb_count.proofs.Interface.{is_some_and-none, is_none-none}
use Rattle.fsb_signal.specs.declared.sample.Sample.{Sample}
use Rattle.fsb_trace.specs.At.{Trace}
use Rattle.fsb_trace.specs.Snoop.{snoop_end_of}
use Rattle.fsb_trace.specs.Response.{end_of, is_clear_before}
use Rattle.fsb_trace.specs.Rules.{may_answer}
use Rattle.fsb_laws.specs.OneMore.{OneMore}
use Rattle.fsb_laws.specs.Orderly.{Spaced, Orderly}
use Rattle.fsb_laws.specs.Progress.{SnoopsTo, response_count, transfer_of, may_answer_next}
use Rattle.fsb_laws.proofs.SnoopSteps.{snoop_end_of-old, snoop_end_of-above}
use Rattle.fsb_laws.proofs.SnoopClockSteps.{ended_where}
use Rattle.fsb_laws.proofs.EndFacts.{ends_to-still, ends_to-moving, transfer_parts, end_of-old, end_of-kept}

-- no transfer is on the way exactly where the request before the next one to respond has its end
clear_still : (h : Trace) (x : Sample) (v : Trace) (n : ℕ) → OneMore h x v → Orderly h → transfer_of h ≡ None
    → response_count h ≡ n → is_clear_before v n (length h) ≡ true
unfolding is_clear_before is_before is_some_and
clear_still h x v zero m o f e = refl
clear_still h x v (suc i) m o f e =
    let p = (ends_to-still h o f).reached i (omega arith) in
    rw (end_of-kept h x v i p.0 m o p.1 p.2) (lt-ltb p.0 (length h) p.2)

not_clear : (h : Trace) (x : Sample) (v : Trace) (i : ℕ) (o : Option ℕ) → OneMore h x v → Orderly h
    → end_of h i ≡ None → end_of v i ≡ o → is_before o (length h) ≡ false
unfolding is_before is_some_and
not_clear h x v i None m o e f = refl
not_clear h x v i (Some t) m o e f =
    elim (cases_lt t (length h)) [
      | inl old ↦ let there = end_of-old h x v i t m o f old in absurd (let no : ⊥ = cc in no)
      | inr new ↦ le-ltb t (length h) new
    ]

clear_moving : (h : Trace) (x : Sample) (v : Trace) (k n : ℕ) → OneMore h x v → Orderly h
    → transfer_of h ≡ Some k → response_count h ≡ n → is_clear_before v n (length h) ≡ false
unfolding is_clear_before
clear_moving h x v k zero m o f e = let p = transfer_parts h k f in absurd (omega (arith, p.1))
clear_moving h x v k (suc i) m o f e =
    not_clear h x v i (end_of v i) m o ((ends_to-moving h k i o f e).above i (omega arith)) refl

clear_by : (h : Trace) (x : Sample) (v : Trace) (t : Option ℕ) → OneMore h x v → Orderly h → transfer_of h ≡ t
    → is_clear_before v (response_count h) (length h) ≡ is_none t
clear_by h x v None m o f = clear_still h x v (response_count h) m o f refl
clear_by h x v (Some k) m o f = clear_moving h x v k (response_count h) m o f refl

-- the request before the next one to respond is out of its way where no transfer is on the way
pub is_clear_before-new : (h : Trace) (x : Sample) (v : Trace) → OneMore h x v → Orderly h
    → is_clear_before v (response_count h) (length h) ≡ is_none (transfer_of h)
is_clear_before-new h x v m o = clear_by h x v (transfer_of h) m o refl

two_before : (n : ℕ) (o : Option ℕ) → ((t : ℕ) → o ≡ Some t → t ≡ n) → is_some_and o (λ s. nat_le (s + 2) n) ≡ false
unfolding is_some_and
two_before n None f = refl
two_before n (Some t) f = let e = f t refl in lt-leb (t + 2) n (omega arith)

snoop_in_time : (h : Trace) (x : Sample) (v : Trace) (s i : ℕ) → OneMore h x v → Spaced h → SnoopsTo h s
    → is_some_and (snoop_end_of v i) (λ t. nat_le (t + 2) (length h))
    ≡ is_some_and (snoop_end_of h i) (λ t. nat_le (t + 2) (length h))
snoop_in_time h x v s i m sp to =
    elim (cases_lt i s) [
      | inl old ↦ ap (λ o. is_some_and o (λ t. nat_le (t + 2) (length h))) (snoop_end_of-old h x v s i m to old)
      | inr new ↦
          two_before (length h) (snoop_end_of v i) (λ t e. ended_where h x v s i t m sp to new e)
          ∙ sym (rw (snoop_end_of-above h s i to new) (is_some_and-none (λ t. nat_le (t + 2) (length h))))
    ]

-- the next response may come at the new clock where its snoop end lies two clocks before and no transfer is on the way
pub may_answer-new : (h : Trace) (x : Sample) (v : Trace) (s : ℕ) → OneMore h x v → Orderly h → SnoopsTo h s
    → may_answer v (length h) (response_count h) ≡ may_answer_next h
unfolding may_answer may_answer_next
may_answer-new h x v s m o to =
    rw (snoop_in_time h x v s (response_count h) m o.spaced to, is_clear_before-new h x v m o) refl

-- a request that may respond at the new clock has its snoop end in the old trace
next_parts : (h : Trace) (o : Option ℕ) → snoop_end_of h (response_count h) ≡ o
    → is_some_and o (λ t. nat_le (t + 2) (length h)) ≡ true
    → (t : ℕ) × (snoop_end_of h (response_count h) ≡ Some t) × (t + 2 ≤ length h)
unfolding is_some_and
next_parts h None e f = absurd (let no : ⊥ = cc in no)
next_parts h (Some t) e f = (t, e, leb-true (t + 2) (length h) f)

pub may_answer_next-parts : (h : Trace) → may_answer_next h ≡ true
    → (t : ℕ) × (snoop_end_of h (response_count h) ≡ Some t) × (t + 2 ≤ length h) × (transfer_of h ≡ None)
unfolding may_answer_next
may_answer_next-parts h e =
    let p = and_parts _ _ e in
    let q = next_parts h (snoop_end_of h (response_count h)) refl p.0 in
    (q.0, q.1, q.2, is_none-none (transfer_of h) p.1)

pub answered_below : (h : Trace) (s : ℕ) → SnoopsTo h s → may_answer_next h ≡ true → response_count h < s
answered_below h s to e =
    elim (cases_lt (response_count h) s) [
      | inl l ↦ l
      | inr l ↦
          let none = snoop_end_of-above h s (response_count h) to l in
          let p = may_answer_next-parts h e in
          let a = p.1 in absurd (let no : ⊥ = cc in no)
    ]
