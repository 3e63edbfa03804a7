-- Snoop clocks and snoop ends, one sample on.
use Rattle.std.proofs.Common.{ℕ, zero, suc, ◌+◌, ◌<◌, ◌≤◌, ◌≡◌, ◌⊎◌, Bool, true, false, cond, not, ◌&&◌, Option, Some}
use Rattle.std.proofs.Common.{None, length, max, refl, sym, ap, ◌∙◌, arith, inl, inr, add-one, subst}
use Rattle.std.specs.Option.{option_map}
use Rattle.std.proofs.lemmas.Bool.{cases_lt, cases_eq, and_left, lt-leb}
use Rattle.fsb_count.specs.Options.{is_some_and, greater_of}
use Rattle.fsb_count.specs.Clocks.{AgreeBelow, first_where}
use Rattle.fsb_count.proofs.Interface.{first_where-same}
use Rattle.fsb_signal.specs.declared.sample.Sample.{Sample}
use Rattle.fsb_trace.specs.At.{Trace}
use Rattle.fsb_trace.specs.Requests.{live_clock_of}
use Rattle.fsb_trace.specs.Snoop.{is_every_second_from, ends_snoop, snoop_end_from, snoop_end_if, start_after_clock}
use Rattle.fsb_trace.specs.Snoop.{start_after_end, snoop_end_of, snoop_start_of}
use Rattle.fsb_trace.proofs.Interface.{stalls_at-agree, snoop_end_of-stays, snoop_end_of-before, snoop_end_of-clock}
use Rattle.fsb_trace.proofs.Interface.{snoop_end_from-found, snoop_end_of-rises}
use Rattle.fsb_laws.specs.OneMore.{OneMore, stalls}
use Rattle.fsb_laws.specs.Orderly.{Spaced}
use Rattle.fsb_laws.specs.Progress.{SnoopsTo, is_snoop_due, ends_snoop_of}
use Rattle.fsb_laws.proofs.OneMoreFacts.{stalls_at-new}
use Rattle.fsb_laws.proofs.LiveSteps.{live_clock_of-more, live_clock_of-less, not_cancelled}

-- past the first live request without a snoop end there are none
none_above : (h : Trace) (s i : ℕ) (o : Option ℕ) → snoop_end_of h s ≡ None → s < i → snoop_end_of h i ≡ o
    → snoop_end_of h i ≡ None
none_above h s i None e l f = f
none_above h s i (Some t) e l f =
    let p = snoop_end_of-rises h s i t l f in absurd (let a = p.1 in let no : ⊥ = cc in no)

pub snoop_end_of-above : (h : Trace) (s i : ℕ) → SnoopsTo h s → s ≤ i → snoop_end_of h i ≡ None
snoop_end_of-above h s i to l =
    elim (cases_eq s i) [
      | inl same ↦ subst (λ m. snoop_end_of h m ≡ None) same to.next
      | inr other ↦ none_above h s i (snoop_end_of h i) to.next (omega (arith, other)) refl
    ]

-- a snoop end that was reached stays
pub snoop_end_of-old : (h : Trace) (x : Sample) (v : Trace) (s i : ℕ) → OneMore h x v → SnoopsTo h s → i < s
    → snoop_end_of v i ≡ snoop_end_of h i
snoop_end_of-old h x v s i m to l =
    let p = to.reached i l in
    snoop_end_of-stays (length h) h v i p.0 m.agree p.2 p.1 ∙ sym p.1

-- the clock of the request whose snoop starts
first_clock : (w : Trace) (start : ℕ) (o : Option ℕ) → live_clock_of w 0 ≡ o
    → option_map (λ q. q + 4) o ≡ Some start → (q : ℕ) × (live_clock_of w 0 ≡ Some q) × (q + 4 ≤ start)
first_clock w start None f e = absurd (let no : ⊥ = cc in no)
first_clock w start (Some q) f e = (q, f, (let same : q + 4 ≡ start = cc in omega arith))

next_clock : (w : Trace) (i start : ℕ) (o p : Option ℕ) → live_clock_of w (suc i) ≡ o
    → greater_of (option_map (λ q. q + 4) o) (option_map (λ t. t + 3) p) ≡ Some start
    → (q : ℕ) × (live_clock_of w (suc i) ≡ Some q) × (q + 4 ≤ start)
unfolding greater_of
next_clock w i start None p f e = absurd (let no : ⊥ = cc in no)
next_clock w i start (Some q) None f e = absurd (let no : ⊥ = cc in no)
next_clock w i start (Some q) (Some t) f e = (q, f, (let top : max (q + 4) (t + 3) ≡ start = cc in omega arith))

pub start_clock : (w : Trace) (s start : ℕ) → snoop_start_of w s ≡ Some start
    → (q : ℕ) × (live_clock_of w s ≡ Some q) × (q + 4 ≤ start)
unfolding snoop_start_of start_after_clock start_after_end greater_of
start_clock w zero start e = first_clock w start (live_clock_of w 0) refl e
start_clock w (suc i) start e = next_clock w i start (live_clock_of w (suc i)) (snoop_end_of w i) refl e

-- a snoop end is not before its snoop start
end_by_start : (w : Trace) (s : ℕ) → snoop_end_of w s ≡ snoop_end_if w (snoop_start_of w s)
unfolding snoop_end_of snoop_start_of
end_by_start w zero = refl
end_by_start w (suc i) = refl

-- the snoop of live request s starts after clock n, if at all
abbrev pub StartsAfter : Trace → ℕ → ℕ → Type 0
StartsAfter w s n = (start : ℕ) → snoop_start_of w s ≡ Some start → n < start

-- a request of which it is not known whether it is live starts its snoop after the new clock
starts_late : (h : Trace) (x : Sample) (v : Trace) (s : ℕ) → OneMore h x v → Spaced h
    → ((q : ℕ) → live_clock_of h s ≡ Some q → length h ≤ q + 3)
    → StartsAfter h s (length h) × StartsAfter v s (length h)
starts_late h x v s m sp late = (
  λ start e. let p = start_clock h s start e in let l = late p.0 p.1 in omega (arith, p.2, l),
  λ start e.
      let p = start_clock v s start e in
      elim (cases_lt p.0 (length h)) [
        | inl old ↦ let l = late p.0 (live_clock_of-less h x v s p.0 m sp old p.1) in omega (arith, p.2, l)
        | inr new ↦ omega (arith, p.2, new)
      ],
)

same_start : (h : Trace) (x : Sample) (v : Trace) (s q : ℕ) → OneMore h x v → SnoopsTo h s
    → live_clock_of h s ≡ Some q → live_clock_of v s ≡ Some q → snoop_start_of v s ≡ snoop_start_of h s
unfolding snoop_start_of start_after_clock start_after_end
same_start h x v zero q m to e f = rw (e, f) refl
same_start h x v (suc i) q m to e f = rw (e, f, snoop_end_of-old h x v (suc i) i m to (omega arith)) refl

starts : (h : Trace) (x : Sample) (v : Trace) (s : ℕ) (o : Option ℕ) → OneMore h x v → Spaced h → SnoopsTo h s
    → live_clock_of h s ≡ o → (snoop_start_of v s ≡ snoop_start_of h s)
    ⊎ (StartsAfter h s (length h) × StartsAfter v s (length h))
starts h x v s None m sp to e = inr (starts_late h x v s m sp (λ q f. absurd (let no : ⊥ = cc in no)))
starts h x v s (Some q) m sp to e =
    elim (cases_lt (q + 3) (length h)) [
      | inl known ↦
          inl (same_start h x v s q m to e
          (live_clock_of-more h x v s q m sp e (not_cancelled x (length h) q (λ f. omega arith))))
      | inr late ↦ inr (starts_late h x v s m sp (λ p f. let same : q ≡ p = cc in omega arith))
    ]

-- the start of the next snoop is the same in the old trace and in the new, or is after the new clock in both
pub snoop_start_of-more : (h : Trace) (x : Sample) (v : Trace) (s : ℕ) → OneMore h x v → Spaced h → SnoopsTo h s
    → (snoop_start_of v s ≡ snoop_start_of h s) ⊎ (StartsAfter h s (length h) × StartsAfter v s (length h))
snoop_start_of-more h x v s m sp to = starts h x v s (live_clock_of h s) m sp to refl

late_not_due : (w : Trace) (s n : ℕ) (o : Option ℕ) → StartsAfter w s n → snoop_start_of w s ≡ o
    → is_some_and o (λ start. is_every_second_from start n) ≡ false
unfolding is_some_and is_every_second_from
late_not_due w s n None after e = refl
late_not_due w s n (Some start) after e = and_left _ _ (lt-leb start n (after start e))

starts_after-not_due : (w : Trace) (s n : ℕ) → StartsAfter w s n → is_snoop_due w s n ≡ false
unfolding is_snoop_due
starts_after-not_due w s n after = late_not_due w s n (snoop_start_of w s) after refl

-- whether a snoop clock is due shows in the old trace
pub is_snoop_due-more : (h : Trace) (x : Sample) (v : Trace) (s : ℕ) → OneMore h x v → Spaced h → SnoopsTo h s
    → is_snoop_due v s (length h) ≡ is_snoop_due h s (length h)
unfolding is_snoop_due
is_snoop_due-more h x v s m sp to =
    elim (snoop_start_of-more h x v s m sp to) [
      | inl same ↦ ap (λ o. is_some_and o (λ start. is_every_second_from start (length h))) same
      | inr late ↦ starts_after-not_due v s (length h) late.1 ∙ sym (starts_after-not_due h s (length h) late.0)
    ]

-- where no clock below n passes, the first below the next is n, if it passes
pub first_where-next : (p : ℕ → Bool) (n : ℕ) → first_where p n ≡ None
    → first_where p (n + 1) ≡ cond (p n) (Some n) None
unfolding first_where
first_where-next p n e = rw (add-one, first_where, e) refl

same_from : (h : Trace) (x : Sample) (v : Trace) (start : ℕ) → OneMore h x v → snoop_end_from h start ≡ None
    → snoop_end_from v start ≡ cond (is_every_second_from start (length h) && not (stalls x)) (Some (length h)) None
unfolding snoop_end_from ends_snoop
same_from h x v start m e =
    let below : AgreeBelow (length h) (ends_snoop h start) (ends_snoop v start) =
    record {
      same = λ c l. ap (λ b. is_every_second_from start c && not b)
          (stalls_at-agree (length h) h v c m.agree l);
    } in
    let none : first_where (ends_snoop v start) (length h) ≡ None = sym (first_where-same _ _ (length h) below) ∙ e in
    rw m.size (first_where-next (ends_snoop v start) (length h) none
    ∙ ap (λ b. cond (is_every_second_from start (length h) && not b) (Some (length h)) None) (stalls_at-new h x v m))

end_with : (h : Trace) (x : Sample) (v : Trace) (o : Option ℕ) → OneMore h x v → snoop_end_if h o ≡ None
    → snoop_end_if v o ≡ cond (is_some_and o (λ start. is_every_second_from start (length h)) && not (stalls x))
    (Some (length h)) None
unfolding snoop_end_if is_some_and
end_with h x v None m e = refl
end_with h x v (Some start) m e = same_from h x v start m e

no_end : (w : Trace) (start : ℕ) (o : Option ℕ) → snoop_end_from w start ≡ o → length w ≤ start
    → snoop_end_from w start ≡ None
no_end w start None e l = e
no_end w start (Some t) e l = let p = snoop_end_from-found w start t e in absurd (omega (arith, p.0, p.1))

not_ended : (w : Trace) (s n : ℕ) (o : Option ℕ) → StartsAfter w s n → length w ≡ n + 1 → snoop_start_of w s ≡ o
    → snoop_end_if w o ≡ None
unfolding snoop_end_if
not_ended w s n None after size e = refl
not_ended w s n (Some start) after size e =
    no_end w start (snoop_end_from w start) refl (let l = after start e in omega arith)

due_form : (h : Trace) (s : ℕ) (x : Sample)
    → cond (is_some_and (snoop_start_of h s) (λ start. is_every_second_from start (length h)) && not (stalls x))
    (Some (length h)) None ≡ cond (is_snoop_due h s (length h) && not (stalls x)) (Some (length h)) None
unfolding is_snoop_due
due_form h s x = refl

-- the snoop end of the first live request without one: the new clock, where it is a snoop clock and no stall
pub snoop_end_of-more : (h : Trace) (x : Sample) (v : Trace) (s : ℕ) → OneMore h x v → Spaced h → SnoopsTo h s
    → snoop_end_of v s ≡ cond (ends_snoop_of h s x) (Some (length h)) None
unfolding ends_snoop_of
snoop_end_of-more h x v s m sp to =
    end_by_start v s
    ∙ elim (snoop_start_of-more h x v s m sp to) [
      | inl same ↦
          ap (snoop_end_if v) same ∙ end_with h x v (snoop_start_of h s) m (sym (end_by_start h s) ∙ to.next)
          ∙ due_form h s x
      | inr late ↦
          not_ended v s (length h) (snoop_start_of v s) late.1 m.size refl
          ∙ sym (rw (starts_after-not_due h s (length h) late.0) refl)
    ]

-- the next one has no snoop end yet
after_new : (h : Trace) (x : Sample) (v : Trace) (s : ℕ) (o : Option ℕ) → OneMore h x v
    → snoop_end_of v s ≡ Some (length h) → snoop_end_of v (s + 1) ≡ o → snoop_end_of v (s + 1) ≡ None
after_new h x v s None m e f = f
after_new h x v s (Some t) m e f =
    let p = snoop_end_of-before v s t f in
    let k = snoop_end_of-clock v (s + 1) t f in
    let a = p.1 in
    let same : p.0 ≡ length h = cc in
    absurd (omega (arith, p.2, k.within, m.size))

-- how far the snoops have come
pub snoops_to-ended : (h : Trace) (x : Sample) (v : Trace) (s : ℕ) → OneMore h x v → Spaced h → SnoopsTo h s
    → ends_snoop_of h s x ≡ true → SnoopsTo v (s + 1)
snoops_to-ended h x v s m sp to t =
    let now : snoop_end_of v s ≡ Some (length h) = snoop_end_of-more h x v s m sp to ∙ (rw t refl) in
    record {
      reached = λ i l. elim (cases_eq i s) [
        | inl same ↦ (length h, subst (λ k. snoop_end_of v k ≡ Some (length h)) (sym same) now, omega (arith, m.size))
        | inr other ↦
            let below : i < s = omega (arith, other) in
            let p = to.reached i below in
            (p.0, snoop_end_of-old h x v s i m to below ∙ p.1, omega (arith, p.2, m.size))
      ];
      next = after_new h x v s (snoop_end_of v (s + 1)) m now refl;
    }

pub snoops_to-kept : (h : Trace) (x : Sample) (v : Trace) (s : ℕ) → OneMore h x v → Spaced h → SnoopsTo h s
    → ends_snoop_of h s x ≡ false → SnoopsTo v s
snoops_to-kept h x v s m sp to f =
    record {
      reached = λ i l.
          let p = to.reached i l in
          (p.0, snoop_end_of-old h x v s i m to l ∙ p.1, omega (arith, p.2, m.size));
      next = snoop_end_of-more h x v s m sp to ∙ (rw f refl);
    }
