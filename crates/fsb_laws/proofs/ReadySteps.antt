-- The ready clock of the next request to respond, one sample on.
use Rattle.std.proofs.Common.{ℕ, zero, suc, ◌+◌, ◌<◌, ◌≤◌, ◌≡◌, true, false, cond, ◌&&◌, nat_le, Option, Some, None}
use Rattle.std.proofs.Common.{length, max, refl, sym, ap, ◌∙◌, arith, inl, inr, subst}
use Rattle.std.specs.Option.{option_map, option_and_then}
use Rattle.std.proofs.lemmas.Bool.{cases_Bool, cases_lt, and_parts, and_from, leb-true, le-leb, both_ways, lt-ltb}
use Rattle.fsb_count.specs.Options.{is_some_and, is_before, greater_of}
use Rattle.fsb_count.specs.Clocks.{AgreeBelow, first_where, from_clock}
use Rattle.fsb_count.proofs.Interface.{first_where-found, first_where-same}
use Rattle.fsb_signal.specs.declared.lines.TheConstants.Lines.{TRDY}
use Rattle.fsb_signal.specs.declared.sample.Sample.{Sample}
use Rattle.fsb_signal.specs.Samples.{has_line, line_at}
use Rattle.fsb_trace.specs.At.{Trace}
use Rattle.fsb_trace.specs.Snoop.{snoop_end_of}
use Rattle.fsb_trace.specs.Response.{end_of, is_clear_before, clock_after_snoop, ready_after, ready_clock_of}
use Rattle.fsb_trace.proofs.Interface.{AgreeTo-sym, end_of-response, ready_clock_of-stays}
use Rattle.fsb_laws.specs.OneMore.{OneMore, responds}
use Rattle.fsb_laws.specs.Orderly.{Orderly}
use Rattle.fsb_laws.specs.Progress.{SnoopsTo, response_count, transfer_of, may_answer_next}
use Rattle.fsb_laws.proofs.OneMoreFacts.{line_at-old, line_at-new}
use Rattle.fsb_laws.proofs.SnoopSteps.{first_where-next, snoop_end_of-old}
use Rattle.fsb_laws.proofs.ResponseSteps.{HasAnswer, may_answer-from, response_clock_of-new}
use Rattle.fsb_laws.proofs.EndFacts.{ends_to-still, end_of-kept, clear_parts}
use Rattle.fsb_laws.proofs.AnswerSteps.{may_answer-new, may_answer_next-parts, answered_below}

-- what a ready clock rests on
pub record HasReady (w : Trace) (i y : ℕ) : Type 0 where
  pub after : ℕ
  pub is_after : ready_after w i ≡ Some after
  pub above : after < y
  pub within : y < length w
  pub ready : line_at TRDY w y ≡ true

ready_parts : (w : Trace) (i y : ℕ) (o : Option ℕ) → ready_after w i ≡ o
    → option_and_then (λ b. first_where (from_clock (b + 1) (line_at TRDY w)) (length w)) o ≡ Some y → HasReady w i y
unfolding from_clock
ready_parts w i y None e h = absurd (let no : ⊥ = cc in no)
ready_parts w i y (Some b) e h =
    let k = first_where-found (from_clock (b + 1) (line_at TRDY w)) (length w) y h in
    let p = and_parts _ _ k.1 in
    let low = leb-true (b + 1) y p.0 in
    record { after = b; is_after = e; above = omega arith; within = k.0; ready = p.1 }

pub has_ready : (w : Trace) (i y : ℕ) → ready_clock_of w i ≡ Some y → HasReady w i y
unfolding ready_clock_of
has_ready w i y e = ready_parts w i y (ready_after w i) refl e

-- what the clock above which a target may be ready rests on: the request may be answered from the clock after it on
after_first : (w : Trace) (b : ℕ) (o : Option ℕ) → snoop_end_of w 0 ≡ o → option_map (λ s. s + 1) o ≡ Some b
    → HasAnswer w (b + 1) 0
unfolding is_clear_before
after_first w b None e f = absurd (let no : ⊥ = cc in no)
after_first w b (Some s) e f = record {
  snoop = s;
  is_snoop = e;
  before = (let same : s + 1 ≡ b = cc in omega arith);
  clear = refl;
}

after_next : (w : Trace) (i b : ℕ) (o p : Option ℕ) → snoop_end_of w (suc i) ≡ o → end_of w i ≡ p
    → greater_of (option_map (λ s. s + 1) o) p ≡ Some b → HasAnswer w (b + 1) (suc i)
unfolding is_clear_before is_before is_some_and greater_of
after_next w i b None p e f g = absurd (let no : ⊥ = cc in no)
after_next w i b (Some s) None e f g = absurd (let no : ⊥ = cc in no)
after_next w i b (Some s) (Some t) e f g =
    let top : max (s + 1) t ≡ b = cc in
    record { snoop = s; is_snoop = e; before = omega arith; clear = rw f (lt-ltb t (b + 1) (omega arith)) }

pub after_answer : (w : Trace) (i b : ℕ) → ready_after w i ≡ Some b → HasAnswer w (b + 1) i
unfolding ready_after clock_after_snoop
after_answer w zero b e = after_first w b (snoop_end_of w 0) refl e
after_answer w (suc i) b e = after_next w i b (snoop_end_of w (suc i)) (end_of w i) refl refl e

-- and the other way round
pub after_from : (w : Trace) (c i : ℕ) → HasAnswer w c i → (b : ℕ) × (ready_after w i ≡ Some b) × (b < c)
unfolding ready_after clock_after_snoop greater_of
after_from w c zero a = (a.snoop + 1, (rw a.is_snoop refl), omega (arith, a.before))
after_from w c (suc i) a =
    let p = clear_parts w i c a.clear in
    (max (a.snoop + 1) p.0, (rw (a.is_snoop, p.1) refl), omega (arith, a.before, p.2))

clear_later : (w : Trace) (i b c : ℕ) → b ≤ c → is_clear_before w i b ≡ true → is_clear_before w i c ≡ true
unfolding is_clear_before is_before is_some_and
clear_later w zero b c l t = refl
clear_later w (suc i) b c l t = let p = clear_parts w i b t in rw p.1 (lt-ltb p.0 c (omega (arith, p.2)))

pub answer_later : (w : Trace) (b c i : ℕ) → b ≤ c → HasAnswer w b i → HasAnswer w c i
answer_later w b c i l a =
    record {
      snoop = a.snoop;
      is_snoop = a.is_snoop;
      before = omega (arith, a.before);
      clear = clear_later w i b c l a.clear;
    }

-- a ready clock that was reached stays
pub ready_clock_of-old : (h : Trace) (x : Sample) (v : Trace) (i y : ℕ) → OneMore h x v
    → ready_clock_of h i ≡ Some y → ready_clock_of v i ≡ Some y
ready_clock_of-old h x v i y m e = ready_clock_of-stays (length h) h v i y m.agree (has_ready h i y e).within e

-- one that is new in the new trace is the new clock, and the request may be answered there
pub ready_now : (h : Trace) (x : Sample) (v : Trace) (s y : ℕ) → OneMore h x v → Orderly h → SnoopsTo h s
    → ready_clock_of h (response_count h) ≡ None → ready_clock_of v (response_count h) ≡ Some y
    → (y ≡ length h) × (has_line x TRDY ≡ true) × (may_answer_next h ≡ true)
ready_now h x v s y m o to e f =
    elim (cases_lt y (length h)) [
      | inl old ↦
          let g = ready_clock_of-stays (length h) v h (response_count h) y (AgreeTo-sym (length h) h v m.agree) old f in
          absurd (let no : ⊥ = cc in no)
      | inr new ↦
          let r = has_ready v (response_count h) y f in
          let here : y ≡ length h = omega (arith, r.within, m.size) in
          let a = answer_later v (r.after + 1) (length h) (response_count h) (omega (arith, r.above))
          (after_answer v (response_count h) r.after r.is_after) in (
            here,
            sym (line_at-new TRDY h x v m) ∙ subst (λ k. line_at TRDY v k ≡ true) here r.ready,
            sym (may_answer-new h x v s m o to) ∙ may_answer-from v (length h) (response_count h) a,
          )
    ]

-- a target that may be ready at the new clock and has TRDY# there is ready there
step_ready : (h : Trace) (x : Sample) (v : Trace) (b : ℕ) → OneMore h x v → b < length h
    → has_line x TRDY ≡ true → first_where (from_clock (b + 1) (line_at TRDY h)) (length h) ≡ None
    → first_where (from_clock (b + 1) (line_at TRDY v)) (length v) ≡ Some (length h)
unfolding from_clock
step_ready h x v b m l t e =
    let below : AgreeBelow (length h) (from_clock (b + 1) (line_at TRDY h)) (from_clock (b + 1) (line_at TRDY v)) =
    record { same = λ c k. ap (λ u. nat_le (b + 1) c && u) (sym (line_at-old TRDY h x v c m k)) } in
    let none : first_where (from_clock (b + 1) (line_at TRDY v)) (length h) ≡ None =
    sym (first_where-same _ _ (length h) below) ∙ e in
    rw m.size (first_where-next (from_clock (b + 1) (line_at TRDY v)) (length h) none
    ∙ ap (λ u. cond u (Some (length h)) None)
    (and_from _ _ (le-leb (b + 1) (length h) (omega arith)) (line_at-new TRDY h x v m ∙ t)))

ready_by : (w : Trace) (i b : ℕ) → ready_after w i ≡ Some b
    → ready_clock_of w i ≡ first_where (from_clock (b + 1) (line_at TRDY w)) (length w)
unfolding ready_clock_of
ready_by w i b e = rw e refl

ready_after-same : (h : Trace) (x : Sample) (v : Trace) (s n : ℕ) → OneMore h x v → Orderly h → SnoopsTo h s
    → may_answer_next h ≡ true → response_count h ≡ n → ready_after v n ≡ ready_after h n
unfolding ready_after clock_after_snoop
ready_after-same h x v s zero m o to t e =
    rw (snoop_end_of-old h x v s 0 m to (let l = answered_below h s to t in omega arith)) refl
ready_after-same h x v s (suc i) m o to t e =
    let p = (ends_to-still h o (may_answer_next-parts h t).3).reached i (omega arith) in
    rw (
      snoop_end_of-old h x v s (suc i) m to (let l = answered_below h s to t in omega arith),
      end_of-kept h x v i p.0 m o p.1 p.2,
      p.1,
    ) refl

out_of_way : (h : Trace) (n : ℕ) → Orderly h → transfer_of h ≡ None → response_count h ≡ n
    → is_clear_before h n (length h) ≡ true
unfolding is_clear_before is_before is_some_and
out_of_way h zero o f e = refl
out_of_way h (suc i) o f e =
    let p = (ends_to-still h o f).reached i (omega arith) in rw p.1 (lt-ltb p.0 (length h) p.2)

next_answer : (h : Trace) (n : ℕ) → Orderly h → may_answer_next h ≡ true → response_count h ≡ n
    → HasAnswer h (length h) n
next_answer h n o t e =
    let p = may_answer_next-parts h t in
    record {
      snoop = p.0;
      is_snoop = subst (λ k. snoop_end_of h k ≡ Some p.0) e p.1;
      before = p.2;
      clear = out_of_way h n o p.3 e;
    }

ready_new : (h : Trace) (x : Sample) (v : Trace) (s : ℕ) → OneMore h x v → Orderly h → SnoopsTo h s
    → ready_clock_of h (response_count h) ≡ None → has_line x TRDY ≡ true → may_answer_next h ≡ true
    → ready_clock_of v (response_count h) ≡ Some (length h)
ready_new h x v s m o to e t may =
    let a = after_from h (length h) (response_count h) (next_answer h (response_count h) o may refl) in
    ready_by v (response_count h) a.0 (ready_after-same h x v s (response_count h) m o to may refl ∙ a.1)
    ∙ step_ready h x v a.0 m a.2 t (sym (ready_by h (response_count h) a.0 a.1) ∙ e)

not_ready : (h : Trace) (x : Sample) (v : Trace) (s : ℕ) (o : Option ℕ) → OneMore h x v → Orderly h
    → SnoopsTo h s → ready_clock_of h (response_count h) ≡ None → (has_line x TRDY && may_answer_next h) ≡ false
    → ready_clock_of v (response_count h) ≡ o → ready_clock_of v (response_count h) ≡ None
not_ready h x v s None m o to e f g = g
not_ready h x v s (Some y) m o to e f g =
    let p = ready_now h x v s y m o to e g in
    absurd (both_ways _ f (and_from _ _ p.1 p.2))

ready_cases : (h : Trace) (x : Sample) (v : Trace) (s : ℕ) (old : Option ℕ) → OneMore h x v → Orderly h
    → SnoopsTo h s → ready_clock_of h (response_count h) ≡ old
    → ready_clock_of v (response_count h) ≡ elim old [
      | Some y ↦ Some y
      | None ↦ cond (has_line x TRDY && may_answer_next h) (Some (length h)) None
    ]
ready_cases h x v s (Some y) m o to e = ready_clock_of-old h x v (response_count h) y m e
ready_cases h x v s None m o to e =
    elim (cases_Bool (has_line x TRDY && may_answer_next h)) [
      | inl t ↦ let p = and_parts _ _ t in ready_new h x v s m o to e p.0 p.1 ∙ sym (rw t refl)
      | inr f ↦ not_ready h x v s (ready_clock_of v (response_count h)) m o to e f refl ∙ sym (rw f refl)
    ]

-- the ready clock of the request that responds next: it stays, or it is the new clock where TRDY# is there in time
pub ready_clock_of-next : (h : Trace) (x : Sample) (v : Trace) (s : ℕ) → OneMore h x v → Orderly h
    → SnoopsTo h s → ready_clock_of v (response_count h) ≡ elim (ready_clock_of h (response_count h))
    [ Some y ↦ Some y | None ↦ cond (has_line x TRDY && may_answer_next h) (Some (length h)) None ]
ready_clock_of-next h x v s m o to = ready_cases h x v s (ready_clock_of h (response_count h)) m o to refl

pub ready_clock_of-begun : (h : Trace) (x : Sample) (v : Trace) (s : ℕ) → OneMore h x v → Orderly h
    → SnoopsTo h s → ready_clock_of h (response_count h) ≡ None
    → ready_clock_of v (response_count h) ≡ cond (has_line x TRDY && may_answer_next h) (Some (length h)) None
ready_clock_of-begun h x v s m o to e = ready_cases h x v s None m o to e

-- the one after it has none yet when it responds
after_response : (h : Trace) (x : Sample) (v : Trace) (o : Option ℕ) → OneMore h x v → responds x ≡ true
    → ready_clock_of v (suc (response_count h)) ≡ o → ready_clock_of v (suc (response_count h)) ≡ None
after_response h x v None m t e = e
after_response h x v (Some y) m t e =
    let r = has_ready v (suc (response_count h)) y e in
    let a = after_answer v (suc (response_count h)) r.after r.is_after in
    let c = clear_parts v (response_count h) (r.after + 1) a.clear in
    let p = end_of-response v (response_count h) c.0 c.1 in
    let f = p.1 in
    let g = response_clock_of-new h x v m t in
    let here : p.0 ≡ length h = cc in
    absurd (omega (arith, r.above, r.within, c.2, p.2, m.size))

pub ready_clock_of-after : (h : Trace) (x : Sample) (v : Trace) → OneMore h x v → responds x ≡ true
    → ready_clock_of v (suc (response_count h)) ≡ None
ready_clock_of-after h x v m t = after_response h x v (ready_clock_of v (suc (response_count h))) m t refl
