-- Whether a reply is under way, one clock on.
use Rattle.fsb_bridge_run.proofs.Words
use Words.{ℕ, suc, ◌+◌, ◌<◌, ◌≤◌, ◌≡◌, true, false, not, Some, length, sym, ap, subst, ◌∙◌, arith, inl, inr, and_from}
use Words.{both_ways, cases_lt, cases_order, false_from_ne_true, is_some_and, Request, ADS, line_at, AgreeTo, Trace}
use Words.{request_at, is_answered, is_reply_to, is_cancelled, is_live, is_reply, live_request_of, snoop_end_of}
use Words.{AgreeTo-sym, is_cancelled-agree, is_live-agree, snoop_end_of-stays, request_at-last, Run, run_to, length-cut}
use Words.{run_to-agrees, orderly-whole, same-both, Reaches, waits, turns_of}
use Rattle.fsb_bridge_run.proofs.DueReplies.{AnswersDue, due-waits}
use Rattle.fsb_bridge_run.proofs.OwnIds.{one-id}
use Rattle.fsb_bridge_run.proofs.UnderWay.{reply-to-kept, under-kept}
use Rattle.fsb_bridge_run.proofs.Waiting.{answered-from, answered-parts, reply-parts, waits-parts}

no-reply : (w : Trace) (q : ℕ) → length w ≤ q + 1 → is_reply (request_at w q) ≡ true → ⊥
unfolding is_reply is_some_and
no-reply w q l e = grind (arith, request_at-last)

-- a reply shows from its second clock on
within : (w : Trace) (i q : ℕ) → is_reply_to w i q ≡ true → q + 1 < length w
within w i q e =
    elim (cases_lt (q + 1) (length w)) [
      | inl l ↦ l
      | inr l ↦ absurd (no-reply w q l (reply-parts w i q e).replies)
    ]

-- where two traces agree up to d, of which the first ends there, and a reply begins at d - 1 in the other alone
pub answered-before : (d : ℕ) (w v : Trace) (i t : ℕ) → AgreeTo (suc d) w v → length v ≡ suc d
    → snoop_end_of w i ≡ Some t
    → t < suc d → is_reply_to w i d ≡ false → is_answered w (suc d) i ≡ is_answered v (suc d) i
answered-before d w v i t a size snoop l none =
    let back = AgreeTo-sym (suc d) w v a in
    let there = snoop_end_of-stays (suc d) w v i t a l snoop in
    same-both (is_answered w (suc d) i) (is_answered v (suc d) i)
    (λ e.
    let k = answered-parts w (suc d) i e in
    let below = k.1.below in
    elim (cases_lt k.0 d) [
      | inl less ↦
          answered-from v (suc d) i k.0
          (under-kept (suc d) w v (suc d) i t k.0 a snoop l (omega arith) (omega arith) k.1)
      | inr more ↦
          let same : k.0 ≡ d = omega arith in
          absurd (both_ways (is_reply_to w i d) none (subst (λ q. is_reply_to w i q ≡ true) same k.1.reply))
    ])
    (λ e.
    let k = answered-parts v (suc d) i e in
    let shows = within v i k.0 k.1.reply in
    answered-from w (suc d) i k.0 (under-kept (suc d) v w (suc d) i t k.0 back there l (omega arith) (omega arith) k.1))

-- a reply that begins at d is under way at the next clock
pub begun-now : (w : Trace) (d i : ℕ) → is_reply_to w i d ≡ true → is_answered w (suc d) i ≡ true
begun-now w d i reply = grind (arith, answered-from)

-- with no cancellation of a reply to it, a request has a reply under way after the clock c where it had one before
pub begun-stays : (r : Run) (c i t : ℕ) → Reaches r (c + 1) → snoop_end_of r.trace i ≡ Some t → t < c + 1
    → ((q : ℕ) → q + 3 ≡ c → is_cancelled r.trace q ≡ true → is_reply_to r.trace i q ≡ true → ⊥)
    → is_answered (run_to r c).trace (c + 1) i ≡ is_answered r.trace c i
unfolding is_live
begun-stays r c i t h snoop below none =
    let w = r.trace in
    let v = (run_to r c).trace in
    let long = h.long in
    let l : c < length w = omega arith in
    let size = length-cut r c l in
    let agree = run_to-agrees r c l in
    let back = AgreeTo-sym (c + 1) w v agree in
    let there = snoop_end_of-stays (c + 1) w v i t agree below snoop in
    same-both (is_answered v (c + 1) i) (is_answered w c i)
    (λ e.
    let k = answered-parts v (c + 1) i e in
    let q : ℕ = k.0 in
    let shows = within v i q k.1.reply in
    let m = under-kept (c + 1) v w (c + 1) i t q back there below (omega arith) (omega arith) k.1 in
    answered-from w c i q (record {
      below = omega arith;
      reply = m.reply;
      kept = elim m.kept [ inl live ↦ inl live | inr late ↦ inr (omega arith) ];
    }))
    (λ e.
    let k = answered-parts w c i e in
    let q : ℕ = k.0 in
    let less = k.1.below in
    let m = under-kept (c + 1) w v c i t q agree snoop below (omega arith) (omega arith) k.1 in
    answered-from v (c + 1) i q (record {
      below = omega arith;
      reply = m.reply;
      kept = elim m.kept [
        | inl live ↦ inl live
        | inr late ↦ elim (cases_lt c (q + 3)) [
          | inl more ↦ inr (omega arith)
          | inr same ↦ inl (and_from (line_at ADS v q) (not (is_cancelled v q)) (reply-parts v i q m.reply).asks
              (ap not (sym (is_cancelled-agree (c + 1) w v q agree (omega arith))
              ∙ uncancelled q (omega arith) k.1.reply)))
        ]
      ];
    }))
  where
    uncancelled : (q : ℕ) → q + 3 ≡ c → is_reply_to r.trace i q ≡ true → is_cancelled r.trace q ≡ false
    uncancelled q at reply = false_from_ne_true (is_cancelled r.trace q) (λ t. none q at t reply)

not-live : (w : Trace) (q : ℕ) → is_cancelled w q ≡ true → is_live w q ≡ true → ⊥
unfolding is_live
not-live w q cancelled live = grind arith

-- a request that waits with the ID of a reply that is cancelled at c has no reply under way after c
pub begun-dropped : (r : Run) (c i q : ℕ) (x : Request) → Reaches r (c + 1) → q + 3 ≡ c
    → is_cancelled r.trace q ≡ true → line_at ADS r.trace q ≡ true → (d : AnswersDue r q)
    → waits r.trace (turns_of r) (c + 1) i ≡ true → live_request_of r.trace i ≡ Some x → x.did ≡ d.request.did
    → is_answered (run_to r c).trace (c + 1) i ≡ false
begun-dropped r c i q x h at cancelled ads d waiting asks did =
    let w = r.trace in
    let v = (run_to r c).trace in
    let long = h.long in
    let l : c < length w = omega arith in
    let size = length-cut r c l in
    let agree = run_to-agrees r c l in
    let back = AgreeTo-sym (c + 1) w v agree in
    let a = waits-parts w (turns_of r) (c + 1) i waiting in
    let below = a.below in
    let there = snoop_end_of-stays (c + 1) w v i a.snoop agree below a.is_snoop in
    let order = orderly-whole r c h.timely l in
    false_from_ne_true (is_answered v (c + 1) i) (λ e.
    let k = answered-parts v (c + 1) i e in
    let u : ℕ = k.0 in
    let shows = within v i u k.1.reply in
    let reply = reply-to-kept (c + 1) v w i a.snoop u back there below (omega arith) k.1.reply in
    let first = (reply-parts w i u reply).asks in
    elim (cases_order u q) [
      | inl same ↦ elim k.1.kept [
        | inl live ↦
            not-live v u (subst (λ y. is_cancelled v y ≡ true) (sym same)
            (sym (is_cancelled-agree (c + 1) w v q agree (omega arith)) ∙ cancelled)) live
        | inr late ↦ omega arith
      ]
      | inr other ↦ elim other [
        | inl less ↦ elim k.1.kept [
          | inl live ↦
              let apart = order.spaced.apart u q less first ads in
              let gap = d.gap in
              let after = d.after in
              let alive = is_live-agree (c + 1) w v u agree (omega arith) ∙ live in
              let due = due-waits r q (c + 1) d (omega arith) (omega arith) in
              let same = one-id r (c + 1) (c + 1) i d.number x d.request h (omega arith) waiting due asks d.asked did in
              d.unanswered u less (subst (λ y. is_reply_to w y u ≡ true) same reply) alive
          | inr late ↦ let apart = order.spaced.apart u q less first ads in omega arith
        ]
        | inr more ↦ let apart = order.spaced.apart q u more ads first in omega arith
      ]
    ])
