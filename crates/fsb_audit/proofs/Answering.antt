-- Each live reply is the reply to a Deferred request, one sample on.
use Rattle.std.proofs.Common.{ℕ, ◌+◌, ◌-◌, ◌<◌, ◌≡◌, Bool, true, false, ◌&&◌, ◌||◌, not, nat_le}
use Rattle.std.proofs.Common.{Option, Some, None, length, refl, sym, ap, ◌∙◌, arith, inl, inr}
use Rattle.std.proofs.lemmas.Bool.{cases_lt, and_parts, and_from, both_ways, not-true, not-false, false_from_ne_true}
use Rattle.std.proofs.lemmas.Bool.{le-leb}
use Rattle.fsb_count.specs.Options.{is_some_and, is_before}
use Rattle.fsb_count.specs.Clocks.{any_where}
use Rattle.fsb_count.proofs.Interface.{any_where-found, any_where-none, first_where-at, nat_eq-sym}
use Rattle.fsb_signal.specs.declared.lines.TheConstants.Lines.{ADS}
use Rattle.fsb_signal.specs.declared.sample.Sample.{Sample}
use Rattle.fsb_signal.specs.Samples.{line_at}
use Rattle.fsb_encode.specs.declared.request.Request.{Request}
use Rattle.fsb_trace.specs.At.{Trace, line_back, request_at}
use Rattle.fsb_trace.specs.Requests.{is_live, live_count, live_request_of, is_reply, have_same_id}
use Rattle.fsb_trace.specs.Outcome.{is_deferred, response_clock_of}
use Rattle.fsb_trace.specs.Flight.{is_in_flight, is_reply_to, is_live_reply_to, reply_clock_of}
use Rattle.fsb_trace.specs.Deferral.{answers, is_answered}
use Rattle.fsb_trace.specs.Rules.{awaits_reply, is_begun_wrongly, is_outstanding_wrong}
use Rattle.fsb_laws.specs.OneMore.{OneMore, cancels}
use Rattle.fsb_laws.specs.Orderly.{Orderly}
use Rattle.fsb_laws.proofs.Interface.{deferred_response, is_deferred-old, is_live-ads, is_live-more}
use Rattle.fsb_laws.proofs.Interface.{reply_clock_of-more, request_at-old, response_counted}
use Rattle.fsb_audit.specs.Audit.{IsAnswering}

same_id-sym : (a b : Option Request) → have_same_id a b ≡ have_same_id b a
unfolding have_same_id is_some_and
same_id-sym None None = refl
same_id-sym None (Some s) = refl
same_id-sym (Some r) None = refl
same_id-sym (Some r) (Some s) = nat_eq-sym r.did s.did

-- what a request awaits that may be answered by one that begins at p
pub record Awaits (v : Trace) (p i : ℕ) : Type 0 where
  pub deferred : is_deferred v i ≡ true
  pub id : have_same_id (live_request_of v i) (request_at v p) ≡ true
  pub before : is_before (response_clock_of v i) p ≡ true
  pub unanswered : is_answered v p i ≡ false

await_parts : (v : Trace) (p i : ℕ) → awaits_reply v p i ≡ true → Awaits v p i
unfolding awaits_reply
await_parts v p i t =
    let a = and_parts _ _ t in
    let b = and_parts _ _ a.0 in
    let c = and_parts _ _ b.0 in
    record { deferred = c.0; id = c.1; before = b.1; unanswered = not-true _ a.1 }

-- a reply that breaks no rule is awaited
awaited : (v : Trace) (n p : ℕ) → p + 1 ≡ n → line_at ADS v p ≡ true → is_outstanding_wrong v n ≡ false
    → is_reply (request_at v p) ≡ true → (i : ℕ) × Awaits v p i
unfolding is_outstanding_wrong line_back is_begun_wrongly
awaited v n p e t f r =
    let back : n - 1 ≡ p = omega arith in
    let one : nat_le 1 n ≡ true = le-leb 1 n (omega arith) in
    let wrong : is_begun_wrongly v p ≡ false = (let a = rw (one, back, t) at f in a) in
    let some : not (any_where (awaits_reply v p) (live_count v)) ≡ false = (let a = rw r at wrong in a) in
    let found = any_where-found (awaits_reply v p) (live_count v) (not-false _ some) in
    (found.0, await_parts v p found.0 found.2)

unanswered_at : (v : Trace) (p i c : ℕ) → is_answered v p i ≡ false → c < p → is_live_reply_to v i c ≡ true → ⊥
unfolding is_answered answers is_live_reply_to
unanswered_at v p i c f l t =
    let none = any_where-none (answers v p i) p f c l in
    let parts = and_parts _ _ t in
    let live : is_live v c ≡ true = parts.0 in
    let still : (is_in_flight v p c || is_live v c) ≡ true = rw live (or_true (is_in_flight v p c)) in
    let both : (is_reply_to v i c && (is_in_flight v p c || is_live v c)) ≡ true = and_from _ _ parts.1 still in
    both_ways _ none both
  where
    or_true : (b : Bool) → (b || true) ≡ true
    or_true true = refl
    or_true false = refl

replies_to : (v : Trace) (p i : ℕ) → Awaits v p i → is_live v p ≡ true → is_reply (request_at v p) ≡ true
    → is_live_reply_to v i p ≡ true
unfolding is_live_reply_to is_reply_to
replies_to v p i a live r =
    rw (live, is_live-ads v p live, r, same_id-sym (request_at v p) (live_request_of v i) ∙ a.id, a.before) refl

new_reply : (v : Trace) (n p : ℕ) → p + 1 ≡ n → p < length v → is_live v p ≡ true
    → is_outstanding_wrong v n ≡ false → is_reply (request_at v p) ≡ true
    → (i : ℕ) × (is_deferred v i ≡ true) × (reply_clock_of v i ≡ Some p)
unfolding reply_clock_of
new_reply v n p e l live f r =
    let w = awaited v n p e (is_live-ads v p live) f r in
    let a : Awaits v p w.0 = w.1 in (
      w.0,
      a.deferred,
      first_where-at (is_live_reply_to v w.0) (length v) p l (replies_to v p w.0 a live r)
          (λ c k. false_from_ne_true _ (λ t. unanswered_at v p w.0 c a.unanswered k t)),
    )

old_reply : (h : Trace) (x : Sample) (v : Trace) (q : ℕ) → OneMore h x v → Orderly h → IsAnswering h
    → q + 1 < length h → is_live v q ≡ true → is_reply (request_at v q) ≡ true
    → (i : ℕ) × (is_deferred v i ≡ true) × (reply_clock_of v i ≡ Some q)
old_reply h x v q m o had l live r =
    let parts = and_parts _ _ (sym (is_live-more h x v q m (omega arith)) ∙ live) in
    let a = had.answers q l parts.0 (ap is_reply (sym (request_at-old h x v q m l)) ∙ r) in
    let d = deferred_response h a.0 a.1 in
    let counted = response_counted h a.0 d.0 d.1 in
    let stays : cancels x (length h) q ≡ false = not-true _ parts.1 in (
      a.0,
      is_deferred-old h x v a.0 m o counted ∙ a.1,
      reply_clock_of-more h x v a.0 m o counted (omega arith)
          ∙ (rw (a.2, stays) refl),
    )

pub answering_goes : (h : Trace) (x : Sample) (v : Trace) → OneMore h x v → Orderly h
    → is_outstanding_wrong v (length h) ≡ false → IsAnswering h → IsAnswering v
answering_goes h x v m o wrong had = record {
  answers = λ q l live r.
      let size = m.size in
      elim (cases_lt (q + 1) (length h)) [
        | inl early ↦ old_reply h x v q m o had early live r
        | inr late ↦ new_reply v (length h) q (omega (arith, size)) (omega (arith, size)) live wrong r
      ];
}
