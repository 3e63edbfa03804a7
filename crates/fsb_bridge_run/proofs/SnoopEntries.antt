-- The list of deferrals after the snoop end of a clock.
use Rattle.fsb_bridge_run.proofs.Words
use Words.{ℕ, ◌+◌, ◌/◌, ◌<◌, ◌≤◌, ◌≡◌, true, false, List, [], ◌∷◌, ◌++◌, Option, Some, None, length, refl, sym, ap}
use Words.{subst, ◌∙◌, arith, inl, inr, cases_Bool, false_from_ne_true, is_some_and, is_before-parts, Request}
use Words.{is_never_held_up, ADS, line_at, Trace, request_at, is_answered, is_deferral, response_clock_of, is_reply}
use Words.{is_reply_kind, line_of, line_at_snoop_end, snoop_end_of, winner_at, live_request_of-at, winner_at-agree}
use Words.{begun_at, snooped_at, agent_at, claim_at, Claim, SnoopEnd, Run, past_of, past_to, requests_below, run_to}
use Words.{request_begun, would_begin, begun-told, tied-snoop, begun-winner, begun_of, get-there, run_to-agrees}
use Words.{wanted-by, wants-lawfully, answered, asked-at, begun-want, deferred-held, orderly-whole, snooped-by, Reaches}
use Words.{Waiting, waiting_without, StandsFor, live_line_of, request_number_of, response_before, waiting_at}
use Words.{waiting_besides, IsEntryOf, IsEntryOf-AreEntriesOf, IsEntryOf-StandsFor, Matched, waiting_without-reply}
use Words.{after_snoop_end, after_snoop_end_of, deferral_made, turns_of}
use Rattle.fsb_bridge_run.proofs.Listed.{Matched-more}
use Rattle.fsb_bridge_run.proofs.OwnIds.{own-ids}
use Rattle.fsb_bridge_run.proofs.RepliesIn.{TakesDeferral, takes-in}
use Rattle.fsb_bridge_run.proofs.Waiting.{answered-parts, reply-parts}
use Rattle.fsb_bridge_run.proofs.WaitingSteps.{IsSnoopedHere, deferred-waiting, plain-waiting, quiet-waiting}
use Rattle.fsb_bridge_run.proofs.WaitingSteps.{replied-waiting}

-- the claim of a symmetric agent's request: its line is the one that the first clock shows
record IsClaimedAt (r : Run) (q : ℕ) (request : Request) : Type 0 where
  pub line : Some request.line ≡ line_of r.trace q

claimed-line : (r : Run) (q : ℕ) (request : Request) → Reaches r (q + 1) → begun_of r q ≡ Some request
    → is_reply_kind request.kind ≡ false → line_at ADS r.trace q ≡ true → IsClaimedAt r q request
unfolding request_begun is_reply is_some_and claim_at agent_at line_of
claimed-line r q request h begun plain ads =
    let w = r.trace in
    let long = h.long in
    let l : q < length w = omega arith in
    let past = past_to (past_of r) q in
    let who = begun-winner (would_begin (run_to r q) past q) (winner_at (run_to r q).trace q) request begun in
    let want = wanted-by r q who.0 request who.2 plain in
    let winner = winner_at-agree (q + 1) w (run_to r q).trace q (run_to-agrees r q l) (omega arith) ∙ who.1
    ∙ ap Some want.1 in
    let s = get-there w q l in
    let claim : Claim = record { first = q; agent = want.0; line = s.0.addr.bits / 4 } in
    let claims : claim_at w q ≡ Some claim = rw (claim_at, agent_at, winner, line_of, s.1) refl in
    let there : begun_at (past_of r) q ≡ Some claim = grind (arith, begun-told) in
    let k = begun-want r q claim h.timely h.bounds l there in
    let one = k.begins in
    let same : k.request ≡ request = cc in
    let named : line_of w q ≡ Some claim.line = rw (winner, line_of, s.1) refl in
    record { line = ap (λ x. Some x.line) (sym same) ∙ ap Some k.line ∙ sym named }

-- the request whose snoop end is the clock responds later, and has no reply yet
late-response : (r : Run) (c i x : ℕ) → Reaches r (c + 1) → snoop_end_of r.trace i ≡ Some c
    → response_clock_of r.trace i ≡ Some x → c + 2 ≤ x
late-response r c i x h snoop response =
    let a = answered r.trace i x (orderly-whole r c h.timely (omega arith)) response in
    grind arith

made-begun : (r : Run) (c i : ℕ) → Reaches r (c + 1) → snoop_end_of r.trace i ≡ Some c
    → false ≡ is_answered r.trace c i
made-begun r c i h snoop =
    sym (false_from_ne_true (is_answered r.trace c i) (λ t.
    let k = answered-parts r.trace c i t in
    let below = k.1.below in
    let reply = reply-parts r.trace i k.0 k.1.reply in
    let after = reply.after in
    let late = late-response r c i reply.response h snoop reply.is_response in
    omega arith))

-- so the deferral that is made is its entry
made-entry : (r : Run) (c i : ℕ) (s : SnoopEnd) (request : Request) → Reaches r (c + 1)
    → IsSnoopedHere r c i s request → begun_of r s.first ≡ Some request → is_reply_kind request.kind ≡ false
    → IsEntryOf r.trace (turns_of r) c (deferral_made r.trace c s request) i
unfolding deferral_made request_number_of requests_below line_at_snoop_end is_some_and live_line_of response_before
made-entry r c i s request h here begun plain =
    grind (arith, claimed-line, live_request_of-at, is_before-parts, late-response, made-begun)

pub after_snoop_end-none : (r : Run) (c : ℕ) (list : List Waiting) → snooped_at (past_of r) c ≡ None
    → after_snoop_end r c list ≡ list
unfolding after_snoop_end
after_snoop_end-none r c list e = rw (after_snoop_end, e) refl

pub after_snoop_end-lost : (r : Run) (c : ℕ) (list : List Waiting) (s : SnoopEnd) → snooped_at (past_of r) c ≡ Some s
    → request_at r.trace s.first ≡ None → after_snoop_end r c list ≡ list
unfolding after_snoop_end
after_snoop_end-lost r c list s e f = rw (after_snoop_end, e, f) refl

pub after_snoop_end-some : (r : Run) (c : ℕ) (list : List Waiting) (s : SnoopEnd) (request : Request)
    → snooped_at (past_of r) c ≡ Some s → request_at r.trace s.first ≡ Some request
    → after_snoop_end r c list ≡ after_snoop_end_of r.trace c s request list
unfolding after_snoop_end
after_snoop_end-some r c list s request e f = rw (after_snoop_end, e, f) refl

pub after-reply : (w : Trace) (c : ℕ) (s : SnoopEnd) (request : Request) (list : List Waiting)
    → is_reply_kind request.kind ≡ true → after_snoop_end_of w c s request list ≡ waiting_without request.did list
unfolding after_snoop_end_of
after-reply w c s request list e = rw (after_snoop_end_of, e) refl

pub after-deferral : (w : Trace) (c : ℕ) (s : SnoopEnd) (request : Request) (list : List Waiting)
    → is_reply_kind request.kind ≡ false → is_deferral s.outcome ≡ true
    → after_snoop_end_of w c s request list ≡ list ++ deferral_made w c s request ∷ []
unfolding after_snoop_end_of
after-deferral w c s request list e f = rw (after_snoop_end_of, e, f) refl

pub after-plain : (w : Trace) (c : ℕ) (s : SnoopEnd) (request : Request) (list : List Waiting)
    → is_reply_kind request.kind ≡ false → is_deferral s.outcome ≡ false → after_snoop_end_of w c s request list ≡ list
unfolding after_snoop_end_of
after-plain w c s request list e f = rw (after_snoop_end_of, e, f) refl

-- the reply whose snoop end is the clock: which request it answers
takes-deferral : (r : Run) (c i : ℕ) (s : SnoopEnd) (reply : Request) → Reaches r (c + 1) → IsSnoopedHere r c i s reply
    → is_reply_kind reply.kind ≡ true → TakesDeferral r.trace (turns_of r) c i reply
takes-deferral r c i s reply h here replies = grind (arith, takes-in)

snoop-some : (r : Run) (c i : ℕ) (s : SnoopEnd) (request : Request) (list : List Waiting) → Reaches r (c + 1)
    → IsSnoopedHere r c i s request → begun_of r s.first ≡ Some request
    → StandsFor list r.trace (turns_of r) c
    → Matched (IsEntryOf r.trace (turns_of r) c) (after_snoop_end_of r.trace c s request list)
    (waiting_at r.trace (turns_of r) (c + 1))
unfolding is_reply_kind
snoop-some r c i s request list h here begun stands =
    let w = r.trace in
    let turns = turns_of r in
    let R : Waiting → ℕ → Type 0 = IsEntryOf w turns c in
    let entries = IsEntryOf-StandsFor list w turns c stands in
    let held : is_deferral s.outcome ≡ true → is_never_held_up request.kind ≡ false = grind (arith, deferred-held) in
    elim (cases_Bool (is_reply_kind request.kind)) [
      | inl reply ↦
          let t = takes-deferral r c i s request h here reply in
          let left = waiting_without-reply list w turns c t.number i request (own-ids r (c + 1) c h (omega arith))
          stands t.waiting t.answers t.asked in
          let kept : is_deferral s.outcome ≡ false = grind arith in
          subst (λ xs. Matched R xs (waiting_at w turns (c + 1))) (sym (after-reply w c s request list reply))
          (subst (Matched R (waiting_without request.did list))
          (sym (replied-waiting r c i t.number s request h here kept t.waiting t.answers))
          (IsEntryOf-AreEntriesOf (waiting_besides w turns c t.number) (waiting_without request.did list) w
          turns c left))
      | inr plain ↦ elim (cases_Bool (is_deferral s.outcome)) [
        | inl deferred ↦
            let made = made-entry r c i s request h here begun plain in
            subst (λ xs. Matched R xs (waiting_at w turns (c + 1)))
            (sym (after-deferral w c s request list plain deferred))
            (subst (Matched R (list ++ deferral_made w c s request ∷ []))
            (sym (deferred-waiting r c i s request h here plain deferred))
            (Matched-more R list (waiting_at w turns c) (deferral_made w c s request) i entries made))
        | inr kept ↦
            subst (λ xs. Matched R xs (waiting_at w turns (c + 1))) (sym (after-plain w c s request list plain kept))
            (subst (Matched R list) (sym (plain-waiting r c i s request here plain kept)) entries)
      ]
    ]

-- after the snoop end each request that waits at the next clock has its entry
pub snoop-entries : (r : Run) (c : ℕ) (list : List Waiting) → Reaches r (c + 1)
    → StandsFor list r.trace (turns_of r) c
    → Matched (IsEntryOf r.trace (turns_of r) c) (after_snoop_end r c list) (waiting_at r.trace (turns_of r) (c + 1))
snoop-entries r c list h stands = by (snooped_at (past_of r) c) refl
  where
    by : (o : Option SnoopEnd) → snooped_at (past_of r) c ≡ o
        → Matched (IsEntryOf r.trace (turns_of r) c) (after_snoop_end r c list)
        (waiting_at r.trace (turns_of r) (c + 1))
    by None e = grind (arith, after_snoop_end-none, quiet-waiting, IsEntryOf-StandsFor)
    by (Some s) e =
        let tied = tied-snoop r c s e in
        let k = snooped-by r c tied.0 s tied.1 in
        let a = asked-at r c tied.0 s h.timely (wants-lawfully r h.bounds) k in
        subst (λ xs. Matched (IsEntryOf r.trace (turns_of r) c) xs (waiting_at r.trace (turns_of r) (c + 1)))
        (sym (after_snoop_end-some r c list s a.request e a.decoded))
        (snoop-some r c tied.0 s a.request list h (record { snooped = k; decoded = a.decoded }) a.begun stands)
