-- Whether the new clock is a snoop clock, and of which request.
use Rattle.std.proofs.Common.{ℕ, zero, suc, ◌+◌, ◌<◌, ◌≤◌, ◌≡◌, true, false, Option, Some, None, length, refl, sym, ap}
use Rattle.std.proofs.Common.{◌∙◌, arith, inl, inr, subst}
use Rattle.std.proofs.lemmas.Bool.{cases_Bool, cases_lt, cases_order, and_right, lt-ltb, false_from_ne_true}
use Rattle.fsb_count.specs.Options.{is_some_and, is_before}
use Rattle.fsb_count.proofs.Interface.{any_where-at, any_where-off, is_before-if}
use Rattle.fsb_signal.specs.declared.sample.Sample.{Sample}
use Rattle.fsb_trace.specs.At.{Trace}
use Rattle.fsb_trace.specs.Requests.{live_count}
use Rattle.fsb_trace.specs.Snoop.{is_every_second_from, snoop_end_of, snoop_start_of, is_snoop_clock_of, is_snoop_clock}
use Rattle.fsb_trace.proofs.Interface.{snoop_start_of-after, snoop_clock-start, live_below_count}
use Rattle.fsb_laws.specs.OneMore.{OneMore}
use Rattle.fsb_laws.specs.Orderly.{Spaced}
use Rattle.fsb_laws.specs.Progress.{SnoopsTo, is_snoop_due, ends_snoop_of}
use Rattle.fsb_laws.proofs.SnoopSteps.{start_clock, snoop_end_of-old, snoop_end_of-above, snoop_end_of-more}
use Rattle.fsb_laws.proofs.SnoopSteps.{is_snoop_due-more, snoops_to-ended, snoops_to-kept}

clock_of_next : (w : Trace) (s n : ℕ) → length w ≡ n + 1 → is_before (snoop_end_of w s) n ≡ false
    → is_snoop_clock_of w n s ≡ is_snoop_due w s n
unfolding is_snoop_clock_of is_snoop_due
clock_of_next w s n size f = rw (size, lt-ltb n (n + 1) (omega arith), f) (grind arith)

-- of the first live request without its snoop end, the new clock is a snoop clock where it is due
pub is_snoop_clock_of-next : (h : Trace) (x : Sample) (v : Trace) (s : ℕ) → OneMore h x v → Spaced h
    → SnoopsTo h s → is_snoop_clock_of v (length h) s ≡ is_snoop_due h s (length h)
is_snoop_clock_of-next h x v s m sp to =
    clock_of_next v s (length h) m.size (ap (λ o. is_before o (length h)) (snoop_end_of-more h x v s m sp to)
    ∙ is_before-if (length h) (ends_snoop_of h s x))
    ∙ is_snoop_due-more h x v s m sp to

ended_no_clock : (w : Trace) (c i t : ℕ) → snoop_end_of w i ≡ Some t → t < c → is_snoop_clock_of w c i ≡ false
unfolding is_snoop_clock_of is_before is_some_and
ended_no_clock w c i t e l = rw (e, lt-ltb t c l) (and_right _ _ refl)

-- of one that has its snoop end before it is none
pub is_snoop_clock_of-old : (h : Trace) (x : Sample) (v : Trace) (s i : ℕ) → OneMore h x v → SnoopsTo h s
    → i < s → is_snoop_clock_of v (length h) i ≡ false
is_snoop_clock_of-old h x v s i m to l =
    let p = to.reached i l in
    ended_no_clock v (length h) i p.0 (snoop_end_of-old h x v s i m to l ∙ p.1) p.2

started : (w : Trace) (s n : ℕ) (o : Option ℕ) → snoop_start_of w s ≡ o
    → is_some_and o (λ start. is_every_second_from start n) ≡ true → s < live_count w
unfolding is_some_and
started w s n None e t = absurd (let no : ⊥ = cc in no)
started w s n (Some start) e t = let p = start_clock w s start e in live_below_count w s p.0 p.1

due_is_live : (w : Trace) (s n : ℕ) → is_snoop_due w s n ≡ true → s < live_count w
unfolding is_snoop_due
due_is_live w s n t = started w s n (snoop_start_of w s) refl t

-- a snoop end that is new in the new trace is the new clock
pub ended_where : (h : Trace) (x : Sample) (v : Trace) (s i t : ℕ) → OneMore h x v → Spaced h → SnoopsTo h s
    → s ≤ i → snoop_end_of v i ≡ Some t → t ≡ length h
ended_where h x v s i t m sp to l e =
    elim (cases_Bool (ends_snoop_of h s x)) [
      | inl now ↦
          elim (cases_lt s i) [
            | inl later ↦
                let none = snoop_end_of-above v (s + 1) i (snoops_to-ended h x v s m sp to now) (omega arith) in
                absurd (let no : ⊥ = cc in no)
            | inr same ↦
                let e' : snoop_end_of v s ≡ Some t =
                subst (λ k. snoop_end_of v k ≡ Some t) (let eq : i ≡ s = omega arith in eq) e in
                let here : snoop_end_of v s ≡ Some (length h) = snoop_end_of-more h x v s m sp to ∙ (rw now refl) in
                cc
          ]
      | inr not_yet ↦
          let none = snoop_end_of-above v s i (snoops_to-kept h x v s m sp to not_yet) l in
          absurd (let no : ⊥ = cc in no)
    ]

later_no_clock : (h : Trace) (x : Sample) (v : Trace) (s i : ℕ) → OneMore h x v → Spaced h → SnoopsTo h s
    → s < i → is_snoop_clock_of v (length h) i ≡ true → ⊥
later_no_clock h x v s zero m sp to l t = omega arith
later_no_clock h x v s (suc i) m sp to l t =
    let p = snoop_clock-start v (length h) (suc i) t in
    let b = snoop_start_of-after v i p.0 p.1 in
    let e = ended_where h x v s i b.0 m sp to (omega arith) b.1 in
    omega (arith, p.2, b.2, e)

-- and of a later one there is none
pub is_snoop_clock_of-later : (h : Trace) (x : Sample) (v : Trace) (s i : ℕ) → OneMore h x v → Spaced h
    → SnoopsTo h s → s < i → is_snoop_clock_of v (length h) i ≡ false
is_snoop_clock_of-later h x v s i m sp to l = false_from_ne_true _ (later_no_clock h x v s i m sp to l)

no_other : (h : Trace) (x : Sample) (v : Trace) (s i : ℕ) → OneMore h x v → Spaced h → SnoopsTo h s
    → is_snoop_due h s (length h) ≡ false → is_snoop_clock_of v (length h) i ≡ false
no_other h x v s i m sp to f =
    elim (cases_order i s) [
      | inl same ↦ subst (λ k. is_snoop_clock_of v (length h) k ≡ false) (sym same)
          (is_snoop_clock_of-next h x v s m sp to ∙ f)
      | inr other ↦ elim other [
        | inl less ↦ is_snoop_clock_of-old h x v s i m to less
        | inr more ↦ is_snoop_clock_of-later h x v s i m sp to more
      ]
    ]

-- the new clock is a snoop clock exactly where one is due of the first live request without its snoop end
pub is_snoop_clock-more : (h : Trace) (x : Sample) (v : Trace) (s : ℕ) → OneMore h x v → Spaced h → SnoopsTo h s
    → is_snoop_clock v (length h) ≡ is_snoop_due h s (length h)
unfolding is_snoop_clock
is_snoop_clock-more h x v s m sp to =
    elim (cases_Bool (is_snoop_due h s (length h))) [
      | inl t ↦
          any_where-at (is_snoop_clock_of v (length h)) (live_count v) s
          (due_is_live v s (length h) (is_snoop_due-more h x v s m sp to ∙ t))
          (is_snoop_clock_of-next h x v s m sp to ∙ t) ∙ sym t
      | inr f ↦
          any_where-off (is_snoop_clock_of v (length h)) (live_count v) (λ i l. no_other h x v s i m sp to f) ∙ sym f
    ]
