-- The request that is snooped next, and the reasons of rules 11 and 12.
use Rattle.std.proofs.Common.{ℕ, zero, suc, ◌+◌, ◌-◌, ◌<◌, ◌≤◌, ◌≡◌, Bool, true, false, cond, ◌&&◌, ◌||◌, not, Option, Some, None}
use Rattle.std.proofs.Common.{[], ◌∷◌, ◌++◌, length, refl, sym, ap, ◌∙◌, arith, inl, inr, is_some, max, nat_eq, ◌%◌}
use Rattle.std.proofs.lemmas.Bool.{and_cases, and_parts, and_left, and_right, both_ways, cases_eq, cases_lt, false_from_ne_true, le-leb, not_from_false, not_from_true, or_from}
use Rattle.fsb_count.specs.Options.{is_before, is_some_and}
use Rattle.fsb_count.proofs.Interface.{any_where-off, first_where-at, first_where-off, is_at-some, is_before-from, is_before-if}
use Rattle.fsb_signal.specs.declared.lines.TheConstants.Lines.{DEFER, HIT, HITM}
use Rattle.fsb_signal.specs.declared.marks.Marks.{Marks}
use Rattle.fsb_signal.specs.declared.sample.Sample.{Sample}
use Rattle.fsb_signal.specs.Samples.{has_line, line_at}
use Rattle.fsb_trace.specs.At.{Trace}
use Rattle.fsb_trace.specs.Requests.{is_reply, is_write_back, live_clock_of, live_count, live_request_of}
use Rattle.fsb_trace.specs.Snoop.{is_every_second_from, is_snoop_clock, snoop_end_of, snoop_start_of, start_after_clock}
use Rattle.fsb_trace.specs.Rules.{breaks, is_result_unfit_for, is_snoop_line_alone, is_snoop_result_unfit, phase_rules}
use Rattle.fsb_trace.proofs.Interface.{live_below_count, snoop_end_of-clock, snoop_end_of-rises, snoop_end_of-stays}
use Rattle.fsb_laws.specs.OneMore.{OneMore}
use Rattle.fsb_laws.specs.Orderly.{Spaced}
use Rattle.fsb_laws.specs.Progress.{SnoopsTo, ends_snoop_of, is_snoop_due}
use Rattle.fsb_laws.proofs.Interface.{ended_where, is_snoop_clock-more, line_at-new, one_more, snoop_end_of-more, snoop_end_of-old, start_clock}
use Rattle.fsb_laws.proofs.SnoopSteps.{is_snoop_due-more}
use Rattle.fsb_heads.specs.Heads.{last_snoop_end, snooped_count, value_before}
use Rattle.fsb_heads.proofs.Interface.{last_snoop_end-more, snooped_count-more, snoops_to, value_before-same}
use Rattle.fsb_heads.proofs.Steps.{start_ended}
use Rattle.fsb_reasons.specs.declared.reason.SnoopLines.{SnoopLines}
use Rattle.fsb_reasons.specs.declared.reason.Reason.TheVariants.{ReplySnooped, SnoopBetween, SnoopEarly, SnoopsOver, WriteBackSnooped}
use Rattle.fsb_reasons.specs.RuleOf.{rule_of}
use Rattle.fsb_reasons.specs.Holds.{AreSnooped, IsSnooped, is_unsnooped, next_snoop}
use Rattle.fsb_why.specs.Explains.{IsReason}
use Rattle.fsb_why_queue.specs.declared.snoops.Snooping.{Snooping}
use Rattle.fsb_why_queue.specs.Snoops.{HasNoSnoop, IsSnooping, unfit_by}
use Rattle.fsb_why_queue.proofs.Head.{none_left}

module _ (h : Trace) (x : Sample) (o : Spaced h) where
  abbrev v : Trace
  v = h ++ x ∷ []

  m : OneMore h x (h ++ x ∷ [])
  m = one_more h x

  end_now : snoop_end_of v (snooped_count h) ≡ cond (ends_snoop_of h (snooped_count h) x) (Some (length h)) None
  end_now = snoop_end_of-more h x v (snooped_count h) m o (snoops_to h)

  -- which one is next
  snooped_before : (i : ℕ) → i < snooped_count h → is_unsnooped v (length h) i ≡ false
  unfolding is_unsnooped
  snooped_before i l =
      let p = (snoops_to h).reached i l in
      let there = snoop_end_of-old h x v (snooped_count h) i m (snoops_to h) l ∙ p.1 in
      not_from_true _ (is_before-from (snoop_end_of v i) p.0 (length h) there p.2)

  unsnooped_now : is_unsnooped v (length h) (snooped_count h) ≡ true
  unfolding is_unsnooped
  unsnooped_now =
      not_from_false _ (ap (λ k. is_before k (length h)) end_now
      ∙ is_before-if (length h) (ends_snoop_of h (snooped_count h) x))

  pub next-there : (q : ℕ) → live_clock_of v (snooped_count h) ≡ Some q → next_snoop v (length h) ≡ Some (snooped_count h)
  unfolding next_snoop
  next-there q e =
      first_where-at (is_unsnooped v (length h)) (live_count v) (snooped_count h)
      (live_below_count v (snooped_count h) q e) unsnooped_now snooped_before

  pub next-none : live_clock_of v (snooped_count h) ≡ None → next_snoop v (length h) ≡ None
  unfolding next_snoop
  next-none e =
      let past = none_left v (snooped_count h) e in
      first_where-off (is_unsnooped v (length h)) (live_count v) (λ i l. snooped_before i (omega (arith, l, past)))

  -- its snoop clocks
  due-is : is_snoop_clock v (length h) ≡ is_snoop_due v (snooped_count h) (length h)
  due-is =
      is_snoop_clock-more h x v (snooped_count h) m o (snoops_to h)
      ∙ sym (is_snoop_due-more h x v (snooped_count h) m o (snoops_to h))

  pub due-there : (start : ℕ) → snoop_start_of v (snooped_count h) ≡ Some start
      → is_snoop_clock v (length h) ≡ is_every_second_from start (length h)
  unfolding is_snoop_due is_some_and
  due-there start e = due-is ∙ (rw e refl)

  no_due : (k : Option ℕ) → snoop_start_of v (snooped_count h) ≡ k → live_clock_of v (snooped_count h) ≡ None
      → is_some_and k (λ start. is_every_second_from start (length h)) ≡ false
  unfolding is_some_and
  no_due None e f = refl
  no_due (Some start) e f =
      let c = start_clock v (snooped_count h) start e in
      let there = c.1 in absurd (let no : ⊥ = cc in no)

  pub due-none : live_clock_of v (snooped_count h) ≡ None → is_snoop_clock v (length h) ≡ false
  unfolding is_snoop_due
  due-none e = due-is ∙ no_due (snoop_start_of v (snooped_count h)) refl e

  some_cond : (b : Bool) (n : ℕ) → is_some (cond b (Some n) None) ≡ b
  some_cond true n = refl
  some_cond false n = refl

  -- its snoop end
  pub end-there : (b : Bool) (k : Option ℕ) → b ≡ is_some k → k ≡ snoop_end_of v (snooped_count h)
      → snoop_end_of v (snooped_count h) ≡ cond b (Some (length h)) None
  end-there b k e f =
      end_now ∙ ap (λ t. cond t (Some (length h)) None)
      (sym (e ∙ ap is_some (f ∙ end_now) ∙ some_cond (ends_snoop_of h (snooped_count h) x) (length h)))

  pub ends_alone : (i : ℕ) → snoop_end_of v i ≡ Some (length h) → i ≡ snooped_count h
  ends_alone i e =
      elim (cases_lt i (snooped_count h)) [
        | inl old ↦
            let p = (snoops_to h).reached i old in
            let g = snoop_end_of-old h x v (snooped_count h) i m (snoops_to h) old ∙ p.1 in
            let same : p.0 ≡ length h = cc in
            absurd (omega (arith, p.2, same))
        | inr new ↦
            elim (cases_eq i (snooped_count h)) [
              | inl same ↦ same
              | inr other ↦
                  let b = snoop_end_of-rises v (snooped_count h) i (length h) (omega (arith, other, new)) e in
                  let c = ended_where h x v (snooped_count h) (snooped_count h) b.0 m o (snoops_to h) (omega arith) b.1 in
                  absurd (omega (arith, b.2, c))
            ]
      ]

  pub ends_none : live_clock_of v (snooped_count h) ≡ None → (i : ℕ) → snoop_end_of v i ≡ Some (length h) → ⊥
  ends_none f i e =
      let same = ends_alone i e in
      let c = snoop_end_of-clock v i (length h) e in
      let there : live_clock_of v (snooped_count h) ≡ Some c.clock = ap (live_clock_of v) (sym same) ∙ c.is_clock in
      let no : ⊥ = cc in no

  -- its first snoop clock
  last-same : value_before (snoop_end_of v) (snooped_count h) ≡ last_snoop_end h
  unfolding last_snoop_end
  last-same = value_before-same (snooped_count h) (λ i l. snoop_end_of-old h x v (snooped_count h) i m (snoops_to h) l)

  pub start-some : (last : Option ℕ) (q t : ℕ) → last ≡ last_snoop_end h → last ≡ Some t
      → live_clock_of v (snooped_count h) ≡ Some q → snoop_start_of v (snooped_count h) ≡ Some (max (q + 4) (t + 3))
  start-some last q t e f c = start_ended v (snooped_count h) q t (last-same ∙ sym e ∙ f) c

  none_cases : (s q : ℕ) → SnoopsTo h s → value_before (snoop_end_of v) s ≡ None → live_clock_of v s ≡ Some q
      → snoop_start_of v s ≡ Some (q + 4)
  unfolding value_before snoop_start_of start_after_clock
  none_cases zero q to e c = rw c refl
  none_cases (suc i) q to e c =
      let p = to.reached i (omega arith) in
      let there = snoop_end_of-stays (length h) h v i p.0 m.agree p.2 p.1 in absurd (let no : ⊥ = cc in no)

  pub start-none : (last : Option ℕ) (q : ℕ) → last ≡ last_snoop_end h → last ≡ None
      → live_clock_of v (snooped_count h) ≡ Some q → snoop_start_of v (snooped_count h) ≡ Some (q + 4)
  start-none last q e f c = none_cases (snooped_count h) q (snoops_to h) (last-same ∙ sym e ∙ f) c

  -- one sample on
  now-is : (k : Option ℕ) → k ≡ snoop_end_of v (snooped_count h) → is_some k ≡ ends_snoop_of h (snooped_count h) x
  now-is k e = ap is_some (e ∙ end_now) ∙ some_cond (ends_snoop_of h (snooped_count h) x) (length h)

  pub count-after : (k : Option ℕ) (n : ℕ) → k ≡ snoop_end_of v (snooped_count h) → n ≡ snooped_count h
      → n + cond (is_some k) 1 0 ≡ snooped_count v
  count-after k n e f = rw (f, now-is k e) (sym (snooped_count-more h x v m o))

  last-cases : (b : Bool) (k last : Option ℕ) → is_some k ≡ b → k ≡ cond b (Some (length h)) None
      → cond (is_some k) k last ≡ cond b (Some (length h)) last
  last-cases true k last e f = rw f refl
  last-cases false k last e f = rw f refl

  pub last-after : (k last : Option ℕ) → k ≡ snoop_end_of v (snooped_count h) → last ≡ last_snoop_end h
      → cond (is_some k) k last ≡ last_snoop_end v
  last-after k last e f =
      last-cases (ends_snoop_of h (snooped_count h) x) k last (now-is k e) (e ∙ end_now)
      ∙ ap (λ y. cond (ends_snoop_of h (snooped_count h) x) (Some (length h)) y) f
      ∙ sym (last_snoop_end-more h x v m o)

pub snooping_is : (h : Trace) (x : Sample) (o : Spaced h) (n : ℕ) (s : Snooping) (k : Option ℕ) → n ≡ length h
    → s.request.number ≡ snooped_count h → live_clock_of (h ++ x ∷ []) (snooped_count h) ≡ Some s.request.clock
    → snoop_start_of (h ++ x ∷ []) (snooped_count h) ≡ Some s.start → s.ends ≡ is_some k
    → k ≡ snoop_end_of (h ++ x ∷ []) (snooped_count h) → s.decoded ≡ live_request_of (h ++ x ∷ []) (snooped_count h)
    → IsSnooping s (h ++ x ∷ []) n
snooping_is h x o n s k e a q start b f d = record {
  next = ap (next_snoop (h ++ x ∷ [])) e ∙ next-there h x o s.request.clock q ∙ ap (λ i. Some i) (sym a);
  clock = ap (live_clock_of (h ++ x ∷ [])) a ∙ q;
  start = ap (snoop_start_of (h ++ x ∷ [])) a ∙ start;
  due = ap (is_snoop_clock (h ++ x ∷ [])) e ∙ due-there h x o s.start start ∙ ap (is_every_second_from s.start) (sym e);
  ends = ap (snoop_end_of (h ++ x ∷ [])) a ∙ end-there h x o s.ends k b f ∙ ap (λ c. cond s.ends (Some c) None) (sym e);
  alone = λ i g. ends_alone h x o i (g ∙ ap (λ c. Some c) e) ∙ sym a;
  decoded = d ∙ sym (ap (live_request_of (h ++ x ∷ [])) a);
}

pub none_is : (h : Trace) (x : Sample) (o : Spaced h) (n : ℕ) → n ≡ length h
    → live_clock_of (h ++ x ∷ []) (snooped_count h) ≡ None → HasNoSnoop (h ++ x ∷ []) n
none_is h x o n e q = record {
  next = ap (next_snoop (h ++ x ∷ [])) e ∙ next-none h x o q;
  due = ap (is_snoop_clock (h ++ x ∷ [])) e ∙ due-none h x o q;
  ends = λ i g. ends_none h x o q i (g ∙ ap (λ c. Some c) e);
}

-- the lines of the new clock
pub lines-new : (h : Trace) (x : Sample) (n : ℕ) (lines : SnoopLines) → n ≡ length h
    → lines ≡ record { hit = has_line x HIT; hitm = has_line x HITM; defer = has_line x DEFER }
    → AreSnooped (h ++ x ∷ []) n lines
lines-new h x n lines e f =
    let m = one_more h x in (
      ap (λ l. l.hit) f ∙ sym (ap (line_at HIT (h ++ x ∷ [])) e ∙ line_at-new HIT h x (h ++ x ∷ []) m),
      ap (λ l. l.hitm) f ∙ sym (ap (line_at HITM (h ++ x ∷ [])) e ∙ line_at-new HITM h x (h ++ x ∷ []) m),
      ap (λ l. l.defer) f ∙ sym (ap (line_at DEFER (h ++ x ∷ [])) e ∙ line_at-new DEFER h x (h ++ x ∷ []) m),
    )

-- 11

pub quiet-is : (m : Marks) (v : Trace) (c : ℕ) (lines : SnoopLines) → AreSnooped v c lines
    → (lines.hit || lines.hitm || lines.defer) ≡ false → breaks m v c 11 ≡ false
unfolding breaks phase_rules is_snoop_line_alone
quiet-is m v c lines a f = and_left _ _ (rw (a.0, a.1, a.2) at f)

pub clock-kept : (m : Marks) (v : Trace) (c start : ℕ) → is_snoop_clock v c ≡ is_every_second_from start c
    → is_every_second_from start c ≡ true → breaks m v c 11 ≡ false
unfolding breaks phase_rules is_snoop_line_alone
clock-kept m v c start e t = and_right _ _ (ap not (e ∙ t))

pub over-is : (m : Marks) (v : Trace) (c : ℕ) (lines : SnoopLines) → HasNoSnoop v c → IsSnooped v c lines
    → IsReason m v c 11 (SnoopsOver lines)
unfolding rule_of
over-is m v c lines n a = record { rule = refl; holds = (a, n.due, n.next) }

pub early-is : (m : Marks) (v : Trace) (c : ℕ) (s : Snooping) (lines : SnoopLines) → IsSnooping s v c → IsSnooped v c lines
    → is_every_second_from s.start c ≡ false → c < s.start → IsReason m v c 11 (SnoopEarly lines s.request s.start)
unfolding rule_of
early-is m v c s lines n a f l = record {
  rule = refl;
  holds = (a, n.due ∙ f, n.next, n.clock, n.start, l);
}

odd : (start c : ℕ) → is_every_second_from start c ≡ false → start ≤ c → nat_eq ((c - start) % 2) 0 ≡ false
unfolding is_every_second_from
odd start c f l = elim (and_cases _ _ f) [ inl g ↦ absurd (both_ways _ g (le-leb start c l)) | inr g ↦ g ]

pub between-is : (m : Marks) (v : Trace) (c : ℕ) (s : Snooping) (lines : SnoopLines) → IsSnooping s v c
    → IsSnooped v c lines → is_every_second_from s.start c ≡ false → s.start ≤ c
    → IsReason m v c 11 (SnoopBetween lines s.request s.start)
unfolding rule_of
between-is m v c s lines n a f l = record {
  rule = refl;
  holds = (a, n.due ∙ f, n.next, n.clock, n.start, l, odd s.start c f l);
}

-- 12

fits_for : (v : Trace) (c i : ℕ) (s : Snooping) (lines : SnoopLines) → IsSnooping s v c → AreSnooped v c lines
    → unfit_by s lines ≡ false → i ≡ s.request.number → is_result_unfit_for v c i ≡ false
unfolding is_result_unfit_for
fits_for v c i s lines n a f e =
    let fits : ((is_write_back (live_request_of v i) || is_reply (live_request_of v i)) && (line_at HITM v c || line_at DEFER v c)
    || is_write_back (live_request_of v i) && line_at HIT v c) ≡ false = rw (e, sym n.decoded, sym a.0, sym a.1, sym a.2) f in
    and_right _ _ fits

ends_at : (v : Trace) (c i : ℕ) → is_result_unfit_for v c i ≡ true → snoop_end_of v i ≡ Some c
unfolding is_result_unfit_for
ends_at v c i t = is_at-some (snoop_end_of v i) c (and_parts _ _ t).0

by_end : (v : Trace) (c i : ℕ) → (snoop_end_of v i ≡ Some c → is_result_unfit_for v c i ≡ false)
    → is_result_unfit_for v c i ≡ false
by_end v c i f =
    false_from_ne_true _ (λ t. both_ways _ (f (ends_at v c i t)) t)

pub result-fits : (m : Marks) (v : Trace) (c : ℕ) (s : Snooping) (lines : SnoopLines) → IsSnooping s v c
    → AreSnooped v c lines → unfit_by s lines ≡ false → breaks m v c 12 ≡ false
unfolding breaks phase_rules is_snoop_result_unfit
result-fits m v c s lines n a f =
    any_where-off (is_result_unfit_for v c) (live_count v) (λ i l. by_end v c i
    (λ e. fits_for v c i s lines n a f (n.alone i e)))

pub result-unended : (m : Marks) (v : Trace) (c : ℕ) → ((i : ℕ) → snoop_end_of v i ≡ Some c → ⊥) → breaks m v c 12 ≡ false
unfolding breaks phase_rules is_snoop_result_unfit
result-unended m v c none =
    any_where-off (is_result_unfit_for v c) (live_count v) (λ i l. by_end v c i (λ e. absurd (none i e)))

pub not_ended : (v : Trace) (c : ℕ) (s : Snooping) → IsSnooping s v c → s.ends ≡ false
    → (i : ℕ) → snoop_end_of v i ≡ Some c → ⊥
not_ended v c s n f i e =
    let there : snoop_end_of v s.request.number ≡ Some c = ap (snoop_end_of v) (sym (n.alone i e)) ∙ e in
    let none : snoop_end_of v s.request.number ≡ None = n.ends ∙ ap (λ b. cond b (Some c) None) f in
    let no : ⊥ = cc in no

pub ended : (v : Trace) (c : ℕ) (s : Snooping) → IsSnooping s v c → s.ends ≡ true → snoop_end_of v s.request.number ≡ Some c
ended v c s n t = n.ends ∙ ap (λ b. cond b (Some c) None) t

pub write_back-is : (m : Marks) (v : Trace) (c : ℕ) (s : Snooping) (lines : SnoopLines) → IsSnooping s v c
    → AreSnooped v c lines → s.ends ≡ true → is_write_back s.decoded ≡ true
    → (lines.hit || lines.hitm || lines.defer) ≡ true → IsReason m v c 12 (WriteBackSnooped lines s.request)
unfolding rule_of
write_back-is m v c s lines n a t w some = record {
  rule = refl;
  holds = ((a, some), n.clock, ended v c s n t, ap is_write_back (sym n.decoded) ∙ w);
}

pub reply-is : (m : Marks) (v : Trace) (c : ℕ) (s : Snooping) (lines : SnoopLines) → IsSnooping s v c
    → AreSnooped v c lines → s.ends ≡ true → is_reply s.decoded ≡ true
    → (lines.hitm || lines.defer) ≡ true → IsReason m v c 12 (ReplySnooped lines s.request)
unfolding rule_of
reply-is m v c s lines n a t r some = record {
  rule = refl;
  holds = (a, some, n.clock, ended v c s n t, ap is_reply (sym n.decoded) ∙ r);
}

quiet_no : (a b : Bool) → (true || a || b) ≡ false → ⊥
quiet_no true b f = let no : ⊥ = cc in no
quiet_no false b f = let no : ⊥ = cc in no

pub fit-quiet : (w r hit hitm defer : Bool) → (hit || hitm || defer) ≡ false
    → ((w || r) && (hitm || defer) || w && hit) ≡ false
fit-quiet w r false false false f = or_from _ _ (and_right _ _ refl) (and_right _ _ refl)
fit-quiet w r true hitm defer f = absurd (quiet_no hitm defer f)
fit-quiet w r false true defer f = absurd (let no : ⊥ = cc in no)
fit-quiet w r false false true f = absurd (let no : ⊥ = cc in no)

pub fit-reply : (w r hit hitm defer : Bool) → w ≡ false → (hitm || defer) ≡ false
    → ((w || r) && (hitm || defer) || w && hit) ≡ false
fit-reply w r hit hitm defer e f = or_from _ _ (and_right _ _ f) (and_left _ _ e)

pub fit-other : (w r hit hitm defer : Bool) → w ≡ false → r ≡ false → ((w || r) && (hitm || defer) || w && hit) ≡ false
fit-other w r hit hitm defer e f = or_from _ _ (and_left _ _ (or_from _ _ e f)) (and_left _ _ e)
