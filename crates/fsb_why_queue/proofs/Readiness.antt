-- Reasons of rule 15.
use Rattle.std.proofs.Common.{ℕ, ◌+◌, ◌<◌, ◌≤◌, ◌≡◌, Bool, true, false, ◌&&◌, ◌||◌, not, Option, Some, None}
use Rattle.std.proofs.Common.{[], ◌∷◌, ◌++◌, length, refl, sym, ap, subst, ◌∙◌, nat_le}
use Rattle.std.proofs.lemmas.Bool.{and_left, and_right, le-ltb, not_from_true, or_from, or_parts}
use Rattle.std.specs.Option.{option_map}
use Rattle.fsb_count.specs.Options.{is_before, is_some_and}
use Rattle.fsb_signal.specs.declared.lines.TheConstants.Lines.{TRDY}
use Rattle.fsb_signal.specs.declared.marks.Marks.{Marks}
use Rattle.fsb_signal.specs.declared.sample.Sample.{Sample}
use Rattle.fsb_signal.specs.Samples.{has_line, line_at}
use Rattle.fsb_trace.specs.At.{Trace}
use Rattle.fsb_trace.specs.Requests.{is_write_back, live_count, live_request_of}
use Rattle.fsb_trace.specs.Snoop.{line_at_snoop_end, snoop_end_of}
use Rattle.fsb_trace.specs.Response.{answer_from, ready_clock_of, takes}
use Rattle.fsb_trace.specs.Rules.{breaks, is_ready_in_time, is_ready_wrongly, is_target_ready_wrong, may_answer, next_response, phase_rules, responds_soundly}
use Rattle.fsb_laws.proofs.Interface.{line_at-new, one_more}
use Rattle.fsb_reasons.specs.declared.reason.Reason.{Reason}
use Rattle.fsb_reasons.specs.declared.reason.Wait.{Wait}
use Rattle.fsb_reasons.specs.declared.reason.Reason.TheVariants.{ReadyEarly, ReadyForNone, ReadyTwice, ReadyUnsettled, ReadyUnwanted, ResponseUnready}
use Rattle.fsb_reasons.specs.RuleOf.{rule_of}
use Rattle.fsb_reasons.specs.Holds.{Waits}
use Rattle.fsb_reasons.proofs.Words.{live_past, no_end}
use Rattle.fsb_why.specs.Explains.{Explains, IsReason, Tells, either_reason}
use Rattle.fsb_why_queue.specs.declared.next.Next.{Next}
use Rattle.fsb_why_queue.specs.Next.{IsNext, takes_by}

pub takes-is : (next : Next) (v : Trace) (c : ℕ) → IsNext next v c → takes v next.request.number ≡ takes_by next
unfolding takes
takes-is next v c n = rw (sym n.decoded, sym n.handed) refl

-- TRDY#

pub unwanted-is : (m : Marks) (v : Trace) (c end : ℕ) (next : Next) → IsNext next v c → line_at TRDY v c ≡ true
    → takes_by next ≡ false → Some end ≡ snoop_end_of v next.request.number
    → IsReason m v c 15 (ReadyUnwanted next.request end)
unfolding rule_of
unwanted-is m v c end next n t f s = record {
  rule = refl;
  holds = (t, (n.number, n.clock), sym s, takes-is next v c n ∙ f);
}

pub unsettled-is : (m : Marks) (v : Trace) (c : ℕ) (next : Next) → IsNext next v c → line_at TRDY v c ≡ true
    → takes_by next ≡ false → None ≡ snoop_end_of v next.request.number → IsReason m v c 15 (ReadyUnsettled next.request)
unfolding rule_of
unsettled-is m v c next n t f s = record {
  rule = refl;
  holds = (t, (n.number, n.clock), sym s, ap is_write_back (sym n.decoded) ∙ (or_parts _ _ f).0);
}

pub twice-is : (m : Marks) (v : Trace) (c ready : ℕ) (next : Next) → IsNext next v c → line_at TRDY v c ≡ true
    → Some ready ≡ ready_clock_of v next.request.number → ready < c → IsReason m v c 15 (ReadyTwice next.request ready)
unfolding rule_of
twice-is m v c ready next n t e l = record { rule = refl; holds = (t, (n.number, n.clock), sym e, l) }

pub twice-not : (v : Trace) (c i : ℕ) (o : Option ℕ) → (takes v i && may_answer v c i) ≡ true → o ≡ ready_clock_of v i
    → is_before o c ≡ false → is_ready_wrongly v c i ≡ false
unfolding is_ready_wrongly
twice-not v c i o t e f = or_from _ _ (not_from_true _ t) (ap (λ k. is_before k c) (sym e) ∙ f)

pub late-not : (y c : ℕ) → c ≤ y → is_before (Some y) c ≡ false
unfolding is_before is_some_and
late-not y c l = le-ltb y c l

pub none-not : (c : ℕ) → is_before None c ≡ false
unfolding is_before is_some_and
none-not c = refl

pub early-is : (m : Marks) (v : Trace) (c : ℕ) (next : Next) (w : Wait) (earliest : Option ℕ) → IsNext next v c
    → line_at TRDY v c ≡ true → takes v next.request.number ≡ true → Waits v c next.request.number w
    → earliest ≡ answer_from v next.request.number → IsReason m v c 15 (ReadyEarly next.request w earliest)
unfolding rule_of
early-is m v c next w earliest n t k h e = record {
  rule = refl;
  holds = (t, (n.number, n.clock), k, h, sym e);
}

-- the response

pub in_time-is : (v : Trace) (c i : ℕ) (o : Option ℕ) (b : Bool) → o ≡ ready_clock_of v i
    → is_some_and o (λ y. nat_le (y + 2) c) ≡ b → is_ready_in_time v c i ≡ b
unfolding is_ready_in_time
in_time-is v c i o b e f = ap (λ k. is_some_and k (λ y. nat_le (y + 2) c)) (sym e) ∙ f

pub unready-is : (m : Marks) (v : Trace) (c : ℕ) (next : Next) (earliest : Option ℕ) → IsNext next v c
    → responds_soundly v c ≡ true → takes v next.request.number ≡ true
    → is_ready_in_time v c next.request.number ≡ false → earliest ≡ option_map (λ y. y + 2) next.ready
    → IsReason m v c 15 (ResponseUnready next.request next.ready earliest)
unfolding rule_of
unready-is m v c next earliest n t k f e = record {
  rule = refl;
  holds = (t, (n.number, n.clock), k, sym n.ready, f, e);
}

-- both together

pub tells-and : (m : Marks) (v : Trace) (c : ℕ) (a b : Bool) (o : Option Reason) → a ≡ true → Tells m v c 15 b o
    → Tells m v c 15 (a && b) o
tells-and m v c a b None t h = and_right a b h
tells-and m v c a b (Some r) t h = h

either-tells : (m : Marks) (v : Trace) (c : ℕ) (a b : Bool) (x y : Option Reason) → Tells m v c 15 a x → Tells m v c 15 b y
    → Tells m v c 15 (a || b) (either_reason x y)
either-tells m v c a b None None p q = or_from a b p q
either-tells m v c a b None (Some r) p q = q
either-tells m v c a b (Some r) y p q = p

wrong-at : Trace → ℕ → ℕ → Bool
wrong-at v c i =
    line_at TRDY v c && is_ready_wrongly v c i || responds_soundly v c && takes v i && not (is_ready_in_time v c i)

told : (m : Marks) (v : Trace) (c i : ℕ) (o : Option Reason) → i ≡ next_response v c
    → Tells m v c 15
    (line_at TRDY v c && is_ready_wrongly v c i || responds_soundly v c && takes v i && not (is_ready_in_time v c i)) o
    → Explains m v c 15 o
unfolding breaks phase_rules is_target_ready_wrong wrong-at
told m v c i None e f = subst (λ k. wrong-at v c k ≡ false) e f
told m v c i (Some r) e h = h

pub both_told : (m : Marks) (v : Trace) (c i : ℕ) (x y : Option Reason) → i ≡ next_response v c
    → Tells m v c 15 (line_at TRDY v c && is_ready_wrongly v c i) x
    → Tells m v c 15 (responds_soundly v c && takes v i && not (is_ready_in_time v c i)) y
    → Explains m v c 15 (either_reason x y)
both_told m v c i x y e p q = told m v c i (either_reason x y) e (either-tells m v c _ _ x y p q)

-- no request

no_takes : (v : Trace) (i : ℕ) → live_count v ≤ i → takes v i ≡ false
unfolding takes live_request_of is_write_back line_at_snoop_end is_some_and
no_takes v i l = rw (live_past v i l, no_end v i l) refl

pub none-is : (m : Marks) (v : Trace) (c number : ℕ) → line_at TRDY v c ≡ true → number ≡ next_response v c
    → live_count v ≤ next_response v c → IsReason m v c 15 (ReadyForNone number)
unfolding rule_of
none-is m v c number t e l = record {
  rule = refl;
  holds = (t, (e, subst (λ k. live_count v ≤ k) (sym e) l));
}

pub none-kept : (m : Marks) (v : Trace) (c : ℕ) → line_at TRDY v c ≡ false → live_count v ≤ next_response v c
    → breaks m v c 15 ≡ false
unfolding breaks phase_rules is_target_ready_wrong
none-kept m v c f l =
    or_from _ _ (and_left _ _ f) (and_left _ _ (and_right _ _ (no_takes v (next_response v c) l)))

pub trdy-new : (h : Trace) (x : Sample) (n : ℕ) → n ≡ length h → has_line x TRDY ≡ line_at TRDY (h ++ x ∷ []) n
trdy-new h x n e = sym (ap (line_at TRDY (h ++ x ∷ [])) e ∙ line_at-new TRDY h x (h ++ x ∷ []) (one_more h x))
