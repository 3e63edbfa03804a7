-- Reasons of rule 14.
use Rattle.std.proofs.Common.{ℕ, ◌≤◌, ◌≡◌, Bool, true, false, cond, ◌&&◌, ◌||◌, not, Some, None}
use Rattle.std.proofs.Common.{[], ◌∷◌, ◌++◌, length, refl, sym, ap, subst, ◌∙◌, nat_eq, nat_lt}
use Rattle.std.proofs.lemmas.Bool.{and_from, and_left, and_right, lt-ltb, or_parts}
use Rattle.fsb_signal.specs.declared.marks.Marks.{Marks}
use Rattle.fsb_signal.specs.declared.sample.Sample.{Sample}
use Rattle.fsb_signal.specs.Samples.{response_of}
use Rattle.fsb_trace.specs.declared.outcome.Outcome.{Outcome}
use Rattle.fsb_trace.specs.declared.outcome.Outcome.TheVariants.{Granted, Handed, Retried, Deferred, Written, Upgraded, Failed}
use Rattle.fsb_trace.specs.At.{Trace, response_code_at}
use Rattle.fsb_trace.specs.Requests.{is_upgrade, is_write_back, live_count}
use Rattle.fsb_trace.specs.Snoop.{snoop_end_of}
use Rattle.fsb_trace.specs.Outcome.{response_code_of}
use Rattle.fsb_trace.specs.Rules.{breaks, has_code_at, has_den, is_code_for, is_code_wrong, next_response, phase_rules, responds_soundly}
use Rattle.fsb_trace.proofs.Interface.{live_below_count}
use Rattle.fsb_laws.specs.OneMore.{responds}
use Rattle.fsb_laws.proofs.Interface.{one_more, responds_at-new, response_code_at-new}
use Rattle.fsb_reasons.specs.declared.reason.Reason.TheVariants.{CodeForNone, CodeUnsettled, CodeWrong}
use Rattle.fsb_reasons.specs.RuleOf.{rule_of}
use Rattle.fsb_reasons.specs.Holds.{expected_of, may_defer_of}
use Rattle.fsb_why.specs.Explains.{IsReason}
use Rattle.fsb_why_queue.specs.declared.next.Next.{Next}
use Rattle.fsb_why_queue.specs.Next.{IsNext, expected_by, fits_by, may_defer_by}

or-false : (b : Bool) → b ≡ (b || false)
or-false true = refl
or-false false = refl

code_cases : (e : Outcome → Bool) (h w d n u : Bool)
    → cond h (e Handed) (cond w (e Written) (cond d (e Retried || n && e Deferred) (cond u (e Upgraded) (e Granted))))
    ≡ (e (cond h Handed (cond w Written (cond d Retried (cond u Upgraded Granted))))
    || (not h && not w && d && n) && e Deferred)
code_cases e true w d n u = or-false (e Handed)
code_cases e false true d n u = or-false (e Written)
code_cases e false false true n u = refl
code_cases e false false false n true = or-false (e Upgraded)
code_cases e false false false n false = or-false (e Granted)

-- the code is the one of what is expected, or of a deferral
fits-is : (next : Next) (v : Trace) (c found : ℕ) → IsNext next v c → is_code_for v next.request.number found ≡ fits_by next found
unfolding is_code_for
fits-is next v c found n =
    rw (sym n.handed, sym n.defer, sym n.decoded)
    (code_cases (λ o. nat_eq found (response_code_of o)) next.handed (is_write_back next.decoded) next.defer
    (has_den next.decoded) (is_upgrade next.decoded))

expected-is : (next : Next) (v : Trace) (c : ℕ) → IsNext next v c → expected_of v next.request.number ≡ expected_by next
unfolding expected_of
expected-is next v c n = rw (sym n.handed, sym n.defer, sym n.decoded) refl

may_defer-is : (next : Next) (v : Trace) (c : ℕ) → IsNext next v c → may_defer_of v next.request.number ≡ may_defer_by next
unfolding may_defer_of
may_defer-is next v c n = rw (sym n.handed, sym n.defer, sym n.decoded) refl

pub code-kept : (m : Marks) (v : Trace) (c found : ℕ) (next : Next) → IsNext next v c → response_code_at v c ≡ found
    → fits_by next found ≡ true → breaks m v c 14 ≡ false
unfolding breaks phase_rules is_code_wrong has_code_at
code-kept m v c found next n e t =
    let i : ℕ = next.request.number in
    let live = lt-ltb i (live_count v) (live_below_count v i next.request.clock n.clock) in
    let fits = ap (is_code_for v i) e ∙ fits-is next v c found n ∙ t in
    and_right _ _ (ap not (subst (λ k. (nat_lt k (live_count v) && is_code_for v k (response_code_at v c)) ≡ true) n.number
    (and_from _ _ live fits)))

pub code-settled : (m : Marks) (v : Trace) (c found end : ℕ) (next : Next) (expected : Outcome) (may : Bool)
    → IsNext next v c → responds_soundly v c ≡ true → response_code_at v c ≡ found → Some end ≡ snoop_end_of v next.request.number
    → expected ≡ expected_by next → may ≡ may_defer_by next → fits_by next found ≡ false
    → IsReason m v c 14 (CodeWrong next.request end found expected may)
unfolding rule_of
code-settled m v c found end next expected may n t e s x d f =
    let p = or_parts _ _ f in
    record {
      rule = refl;
      holds = (
        t,
        e,
        (n.number, n.clock),
        sym s,
        expected-is next v c n ∙ sym x,
        may_defer-is next v c n ∙ sym d,
        ap (λ o. nat_eq found (response_code_of o)) x ∙ p.0,
        ap (λ b. b && nat_eq found (response_code_of Deferred)) d ∙ p.1,
      );
    }

pub code-unsettled : (m : Marks) (v : Trace) (c found : ℕ) (next : Next) (expected : Outcome)
    → IsNext next v c → responds_soundly v c ≡ true → response_code_at v c ≡ found → None ≡ snoop_end_of v next.request.number
    → expected ≡ expected_by next → fits_by next found ≡ false
    → IsReason m v c 14 (CodeUnsettled next.request found expected)
unfolding rule_of
code-unsettled m v c found next expected n t e s x f =
    let p = or_parts _ _ f in
    record {
      rule = refl;
      holds = (
        t,
        e,
        (n.number, n.clock),
        sym s,
        expected-is next v c n ∙ sym x,
        ap (λ o. nat_eq found (response_code_of o)) x ∙ p.0,
      );
    }

pub code-none : (m : Marks) (v : Trace) (c number code : ℕ) → responds_soundly v c ≡ true → response_code_at v c ≡ code
    → number ≡ next_response v c → live_count v ≤ next_response v c → IsReason m v c 14 (CodeForNone number code)
unfolding rule_of
code-none m v c number code t e n l = record {
  rule = refl;
  holds = (t, e, (n, subst (λ k. live_count v ≤ k) (sym n) l));
}

pub code-quiet : (m : Marks) (v : Trace) (c : ℕ) → responds_soundly v c ≡ false → breaks m v c 14 ≡ false
unfolding breaks phase_rules is_code_wrong
code-quiet m v c f = and_left _ _ f

-- a response that is no hard failure
pub sound-new : (h : Trace) (x : Sample) (n : ℕ) → n ≡ length h
    → (responds x && not (nat_eq (response_of x) (response_code_of Failed))) ≡ responds_soundly (h ++ x ∷ []) n
unfolding responds_soundly
sound-new h x n e =
    rw (e, responds_at-new h x (h ++ x ∷ []) (one_more h x), response_code_at-new h x (h ++ x ∷ []) (one_more h x)) refl

pub code-new : (h : Trace) (x : Sample) (n : ℕ) → n ≡ length h → response_code_at (h ++ x ∷ []) n ≡ response_of x
code-new h x n e = ap (response_code_at (h ++ x ∷ [])) e ∙ response_code_at-new h x (h ++ x ∷ []) (one_more h x)
