-- Replies that are under way, in traces that agree so far.
use Rattle.fsb_bridge_run.proofs.Words
use Words.{ℕ, ◌+◌, ◌<◌, ◌≤◌, ◌≡◌, true, Some, sym, ap, ◌∙◌, arith, inl, inr, cases_lt, ADS, AgreeTo, Trace, is_answered}
use Words.{is_reply_to, have_same_id, is_reply, snoop_end_of, AgreeTo-sym, is_live-agree, line_at-agree}
use Words.{live_request_of-stays, request_at-agree, response_clock_of-stays, snoop_end_of-stays, same-both}
use Rattle.fsb_bridge_run.proofs.Waiting.{IsUnderWay, answered-from, answered-parts, reply-from, reply-parts}

-- a reply that shows below n is one in both traces
pub reply-to-kept : (n : ℕ) (w v : Trace) (i t q : ℕ) → AgreeTo n w v → snoop_end_of w i ≡ Some t → t < n → q + 1 < n
    → is_reply_to w i q ≡ true → is_reply_to v i q ≡ true
reply-to-kept n w v i t q a e l m reply =
    let k = reply-parts w i q reply in
    let after = k.after in
    let request = request_at-agree n w v q a m in
    let asked = live_request_of-stays n w v i t a l e in
    reply-from v i q (record {
      asks = sym (line_at-agree ADS n w v q a (omega arith)) ∙ k.asks;
      replies = sym (ap is_reply request) ∙ k.replies;
      same_id = sym (λ x. have_same_id (request x) (asked x)) ∙ k.same_id;
      response = k.response;
      is_response = response_clock_of-stays n w v i k.response a (omega arith) k.is_response;
      after = after;
    })

-- and is under way in both
pub under-kept : (n : ℕ) (w v : Trace) (c i t q : ℕ) → AgreeTo n w v → snoop_end_of w i ≡ Some t → t < n → q + 1 < n
    → c ≤ n → IsUnderWay w c i q → IsUnderWay v c i q
under-kept n w v c i t q a e l m low k = record {
  below = k.below;
  reply = reply-to-kept n w v i t q a e l m k.reply;
  kept = elim k.kept [
    | inr late ↦ inr late
    | inl live ↦ elim (cases_lt (q + 3) n) [
      | inl less ↦ inl (sym (is_live-agree n w v q a less) ∙ live)
      | inr more ↦ inr (omega arith)
    ]
  ];
}

answered-kept : (n : ℕ) (w v : Trace) (c i t : ℕ) → AgreeTo n w v → snoop_end_of w i ≡ Some t → t < n → c < n
    → is_answered w c i ≡ true → is_answered v c i ≡ true
answered-kept n w v c i t a e l m answered =
    let k = answered-parts w c i answered in
    let below = k.1.below in
    answered-from v c i k.0 (under-kept n w v c i t k.0 a e l (omega arith) (omega arith) k.1)

-- so the same have a reply under way, one clock before the traces may differ
pub answered-same : (n : ℕ) (w v : Trace) (c i t : ℕ) → AgreeTo n w v → snoop_end_of w i ≡ Some t → t < n → c < n
    → is_answered w c i ≡ is_answered v c i
answered-same n w v c i t a e l m =
    same-both (is_answered w c i) (is_answered v c i) (answered-kept n w v c i t a e l m)
    (answered-kept n v w c i t (AgreeTo-sym n w v a) (snoop_end_of-stays n w v i t a l e) l m)
