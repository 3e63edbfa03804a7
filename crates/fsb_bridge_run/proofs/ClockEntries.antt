-- The entries of the list after the cancellation and the response of a clock.
use Rattle.fsb_bridge_run.proofs.Words
use Words.{ℕ, ◌+◌, ◌<◌, ◌≡◌, Bool, true, false, cond, List, map, Option, Some, None, length, nat_eq, slice_index, refl}
use Words.{sym, ap, subst, ◌∙◌, arith, inl, inr, both_ways, cases_Bool, eq-eqb, eqb-true, is_before, is_some_and}
use Words.{count_where-above, is_before-from, is_before-parts, nth_where-one, Request, ADS, AERR, line_at, Trace}
use Words.{request_at, responds_at, is_answered, later_of, is_reply_to, response_clock_of, have_same_id, is_cancelled}
use Words.{is_live, live_clock_of, live_count, live_request_of, Run, past_of, requests_below, run_to, reply_to}
use Words.{cancelled_in, responded_in, live-ads, wants-lawfully, Responds, cancelled-at, cancels, number-responded}
use Words.{orderly-whole, responded-number, Reaches, Waiting, with_answer, with_reply, IsDeferralOf, live_line_of}
use Words.{request_number_of, response_before, waiting_at, waits, IsEntryOf, Matched, after_cancellation, after_reply}
use Words.{after_response, reply_at, was_deferred, turns_of}
use Rattle.fsb_run_laws.proofs.Interface.{snoop-below}
use Rattle.fsb_bridge_run.proofs.DueReplies.{answers-due}
use Rattle.fsb_bridge_run.proofs.Listed.{AllPass, Matched-into, Matched-map, all_where-pass}
use Rattle.fsb_bridge_run.proofs.OwnIds.{deferred-at, ids-of}
use Rattle.fsb_bridge_run.proofs.RepliesAt.{reply_at-none, reply_at-parts}
use Rattle.fsb_bridge_run.proofs.ReplySteps.{begun-dropped, begun-stays}
use Rattle.fsb_bridge_run.proofs.Waiting.{reply-parts, waits-parts}

-- the entry of live request i, with this response and this mark of a reply
pub record IsEntryWith (r : Run) (response : Option ℕ) (begun : Bool) (e : Waiting) (i : ℕ) : Type 0 where
  pub deferral : IsDeferralOf r.trace e.deferral i
  pub line : Some e.deferral.request.line ≡ live_line_of r.trace i
  pub later : e.later ≡ later_of (slice_index (turns_of r) i)
  pub answered_as : e.answered ≡ response
  pub begun_as : e.begun ≡ begun

with-begun : (r : Run) (c : ℕ) (e : Waiting) (i : ℕ) (mark begun : Bool) → IsEntryOf r.trace (turns_of r) c e i
    → mark ≡ begun → IsEntryWith r (response_before r.trace c i) begun (record e { begun = mark }) i
with-begun r c e i mark begun h same = grind arith

-- the entries with their responses below c and the replies under way after c
abbrev pub IsCancelledTo : Run → ℕ → Waiting → ℕ → Type 0
IsCancelledTo r c e i =
    IsEntryWith r (response_before r.trace c i) (is_answered (run_to r c).trace (c + 1) i) e i

-- the entries with both after c
abbrev pub IsAnsweredTo : Run → ℕ → Waiting → ℕ → Type 0
IsAnsweredTo r c e i =
    IsEntryWith r (response_before r.trace (c + 1) i) (is_answered (run_to r c).trace (c + 1) i) e i

after-no-cancellation : (r : Run) (c : ℕ) (list : List Waiting) → cancelled_in (past_of r) c ≡ None
    → after_cancellation r c list ≡ list
unfolding after_cancellation
after-no-cancellation r c list e = rw (after_cancellation, e) refl

after-other : (r : Run) (c q : ℕ) (list : List Waiting) → cancelled_in (past_of r) c ≡ Some q
    → reply_at r.trace q ≡ None → after_cancellation r c list ≡ list
unfolding after_cancellation after_reply
after-other r c q list e f = rw (after_cancellation, e, f) refl

after-dropped : (r : Run) (c q : ℕ) (reply : Request) (list : List Waiting) → cancelled_in (past_of r) c ≡ Some q
    → reply_at r.trace q ≡ Some reply → after_cancellation r c list ≡ map (with_reply reply.did false) list
unfolding after_cancellation after_reply
after-dropped r c q reply list e f = rw (after_cancellation, e, f) refl

-- a request that is cancelled at c is the one that the moment of c has
cancelled-there : (r : Run) (c q : ℕ) → Reaches r (c + 1) → q + 3 ≡ c → line_at ADS r.trace q ≡ true
    → is_cancelled r.trace q ≡ true → cancelled_in (past_of r) c ≡ Some q
unfolding is_cancelled
cancelled-there r c q h at ads error = grind (arith, cancelled-at)

-- an entry whose request has no reply that is cancelled at c
kept-entry : (r : Run) (c i : ℕ) (e : Waiting) → Reaches r (c + 1) → waits r.trace (turns_of r) (c + 1) i ≡ true
    → IsEntryOf r.trace (turns_of r) c e i
    → ((q : ℕ) → cancelled_in (past_of r) c ≡ Some q → is_reply_to r.trace i q ≡ true → ⊥)
    → IsCancelledTo r c e i
kept-entry r c i e h waiting entry none =
    let a = waits-parts r.trace (turns_of r) (c + 1) i waiting in
    let stays = begun-stays r c i a.snoop h a.is_snoop a.below (λ q at cancelled reply.
    none q (cancelled-there r c q h at (reply-parts r.trace i q reply).asks cancelled) reply) in
    with-begun r c e i e.begun (is_answered (run_to r c).trace (c + 1) i) entry (entry.begun ∙ sym stays)

dropped-entry : (r : Run) (c q i : ℕ) (reply : Request) (e : Waiting) → Reaches r (c + 1)
    → cancelled_in (past_of r) c ≡ Some q → reply_at r.trace q ≡ Some reply
    → waits r.trace (turns_of r) (c + 1) i ≡ true → IsEntryOf r.trace (turns_of r) c e i
    → (b : Bool) → nat_eq e.deferral.request.did reply.did ≡ b → IsCancelledTo r c (with_reply reply.did false e) i
unfolding is_cancelled reply_to
dropped-entry r c q i reply e h cancelled begins waiting entry true own =
    let w = r.trace in
    let long = h.long in
    let parts = reply_at-parts w q reply begins in
    let k = cancels r c q (omega arith) cancelled in
    let at = k.0 in
    let error : is_cancelled w q ≡ true = subst (λ n. line_at AERR w n ≡ true) at k.1 in
    let d = answers-due r q h.timely (wants-lawfully r h.bounds) h.bounds.few_ahead (omega arith) parts.0 parts.1 in
    let shown = d.shown in
    let decoded = parts.2 in
    let same : reply_to d.request ≡ reply = cc in
    let did : e.deferral.request.did ≡ d.request.did = grind arith in
    let off = begun-dropped r c i q e.deferral.request h (sym at) error parts.0 d waiting entry.deferral.request did in
    rw own (with-begun r c e i false (is_answered (run_to r c).trace (c + 1) i) entry (sym off))
dropped-entry r c q i reply e h cancelled begins waiting entry false other =
    rw other (kept-entry r c i e h waiting entry (λ u also replies.
    let same : u ≡ q = cc in
    let parts = reply_at-parts r.trace q reply begins in
    let id = (reply-parts r.trace i u replies).same_id in
    let here = subst (λ k. have_same_id (request_at r.trace k) (live_request_of r.trace i) ≡ true) same id in
    let did = ids-of (request_at r.trace q) (live_request_of r.trace i) reply e.deferral.request parts.2
    entry.deferral.request here in
    both_ways (nat_eq e.deferral.request.did reply.did) other (eq-eqb e.deferral.request.did reply.did (sym did))))

pub cancelled-entries : (r : Run) (c : ℕ) (list : List Waiting) → Reaches r (c + 1)
    → Matched (IsEntryOf r.trace (turns_of r) c) list (waiting_at r.trace (turns_of r) (c + 1))
    → Matched (IsCancelledTo r c) (after_cancellation r c list) (waiting_at r.trace (turns_of r) (c + 1))
unfolding waiting_at
cancelled-entries r c list h entries = by (cancelled_in (past_of r) c) refl
  where
    live : List ℕ
    live = waiting_at r.trace (turns_of r) (c + 1)

    all : AllPass (waits r.trace (turns_of r) (c + 1)) live
    all = all_where-pass (waits r.trace (turns_of r) (c + 1)) (live_count r.trace)

    kept : ((i q : ℕ) → cancelled_in (past_of r) c ≡ Some q → is_reply_to r.trace i q ≡ true → ⊥)
        → Matched (IsCancelledTo r c) list live
    kept none = grind (arith, Matched-into, all, kept-entry)

    by-reply : (q : ℕ) → cancelled_in (past_of r) c ≡ Some q → (o : Option Request) → reply_at r.trace q ≡ o
        → Matched (IsCancelledTo r c) (after_cancellation r c list) live
    by-reply q e None f =
        subst (λ xs. Matched (IsCancelledTo r c) xs live) (sym (after-other r c q list e f)) (kept (λ i u also reply.
        let same : u ≡ q = cc in
        let parts = reply-parts r.trace i u reply in
        reply_at-none r.trace u (ap (reply_at r.trace) same ∙ f) parts.asks parts.replies))
    by-reply q e (Some reply) f =
        subst (λ xs. Matched (IsCancelledTo r c) xs live) (sym (after-dropped r c q reply list e f))
        (Matched-map (IsEntryOf r.trace (turns_of r) c) (IsCancelledTo r c) (waits r.trace (turns_of r) (c + 1))
        (with_reply reply.did false) list live all
        (λ x i waiting entry. dropped-entry r c q i reply x h e f waiting entry
        (nat_eq x.deferral.request.did reply.did) refl) entries)

    by : (o : Option ℕ) → cancelled_in (past_of r) c ≡ o
        → Matched (IsCancelledTo r c) (after_cancellation r c list) live
    by None e = grind (arith, after-no-cancellation, kept)
    by (Some q) e = by-reply q e (reply_at r.trace q) refl

after-no-response : (r : Run) (c : ℕ) (list : List Waiting) → responded_in (past_of r) c ≡ None
    → after_response r c list ≡ list
unfolding after_response
after-no-response r c list e = rw (after_response, e) refl

after-answer : (r : Run) (c q : ℕ) (list : List Waiting) → responded_in (past_of r) c ≡ Some q
    → was_deferred (past_of r) c q ≡ true
    → after_response r c list ≡ map (with_answer (requests_below r.trace q) c) list
unfolding after_response
after-answer r c q list e f = rw (after_response, e, f) refl

after-others : (r : Run) (c q : ℕ) (list : List Waiting) → responded_in (past_of r) c ≡ Some q
    → was_deferred (past_of r) c q ≡ false → after_response r c list ≡ list
unfolding after_response
after-others r c q list e f = rw (after_response, e, f) refl

-- a response at c is one below the next clock
response-now : (w : Trace) (c i : ℕ) → response_clock_of w i ≡ Some c → response_before w (c + 1) i ≡ Some c
unfolding response_before
response-now w c i e = grind (arith, is_before-from)

more-same : (a : Option ℕ) (c : ℕ) → (a ≡ Some c → ⊥)
    → cond (is_before a (c + 1)) a None ≡ cond (is_before a c) a None
more-same a c other = grind (arith, is_before-parts, is_before-from)

response-other : (w : Trace) (c i : ℕ) → (response_clock_of w i ≡ Some c → ⊥)
    → response_before w (c + 1) i ≡ response_before w c i
unfolding response_before
response-other w c i other = more-same (response_clock_of w i) c other

unanswered-entry : (r : Run) (c i : ℕ) (e : Waiting) → IsCancelledTo r c e i
    → (response_clock_of r.trace i ≡ Some c → ⊥) → IsAnsweredTo r c e i
unanswered-entry r c i e entry other = grind (arith, response-other)

-- requests are told apart by how many begin before them
one-place : (w : Trace) (p q : ℕ) → line_at ADS w p ≡ true → line_at ADS w q ≡ true
    → requests_below w p ≡ requests_below w q → p ≡ q
unfolding requests_below
one-place w p q one two same = grind (arith, count_where-above)

number-at : (w : Trace) (i q number : ℕ) → live_clock_of w i ≡ Some q → request_number_of w i ≡ Some number
    → number ≡ requests_below w q
unfolding request_number_of requests_below
number-at w i q number e f = grind arith

one-live : (w : Trace) (i k q : ℕ) → live_clock_of w i ≡ Some q → live_clock_of w k ≡ Some q → i ≡ k
unfolding live_clock_of
one-live w i k q e f = nth_where-one (is_live w) i k (length w) q e f

one-response : (w : Trace) (i k c : ℕ) → response_clock_of w i ≡ Some c → response_clock_of w k ≡ Some c → i ≡ k
unfolding response_clock_of
one-response w i k c e f = nth_where-one (responds_at w) i k (length w) c e f

answered-entry : (r : Run) (c k q i : ℕ) (e : Waiting) → Responds r k c q
    → waits r.trace (turns_of r) (c + 1) i ≡ true → IsCancelledTo r c e i
    → (b : Bool) → nat_eq e.deferral.number (requests_below r.trace q) ≡ b
    → IsAnsweredTo r c (with_answer (requests_below r.trace q) c e) i
answered-entry r c k q i e responds waiting entry true own =
    let w = r.trace in
    let a = waits-parts w (turns_of r) (c + 1) i waiting in
    let number = number-at w i a.clock e.deferral.number a.is_clock entry.deferral.number in
    let place = eqb-true e.deferral.number (requests_below w q) own in
    let same = one-place w a.clock q (live-ads w i a.clock a.is_clock) (live-ads w k q responds.first)
    (sym number ∙ place) in
    grind (arith, one-live, response-now)
answered-entry r c k q i e responds waiting entry false other =
    let w = r.trace in
    let a = waits-parts w (turns_of r) (c + 1) i waiting in
    let number = number-at w i a.clock e.deferral.number a.is_clock entry.deferral.number in
    rw other (unanswered-entry r c i e entry (λ response.
    let is = one-response w i k c response responds.response in
    let first : live_clock_of w i ≡ Some q = subst (λ x. live_clock_of w x ≡ Some q) (sym is) responds.first in
    let one = a.is_clock in
    let same : a.clock ≡ q = cc in
    both_ways (nat_eq e.deferral.number (requests_below w q)) other
    (eq-eqb e.deferral.number (requests_below w q) (number ∙ ap (requests_below w) same))))

-- what responds and waits was Deferred
waits-deferred : (r : Run) (c i q : ℕ) → Reaches r (c + 1) → waits r.trace (turns_of r) (c + 1) i ≡ true
    → live_clock_of r.trace i ≡ Some q → was_deferred (past_of r) c q ≡ true
unfolding was_deferred is_some_and
waits-deferred r c i q h waiting first =
    let a = waits-parts r.trace (turns_of r) (c + 1) i waiting in
    let d = deferred-at r a.snoop i h.timely (wants-lawfully r h.bounds) a.is_snoop a.deferred in
    let there = snoop-below r c a.snoop d.end h (omega arith) d.snooped.tied.there in
    grind arith

pub answered-entries : (r : Run) (c : ℕ) (list : List Waiting) → Reaches r (c + 1)
    → Matched (IsCancelledTo r c) list (waiting_at r.trace (turns_of r) (c + 1))
    → Matched (IsAnsweredTo r c) (after_response r c list) (waiting_at r.trace (turns_of r) (c + 1))
unfolding waiting_at
answered-entries r c list h entries = by (responded_in (past_of r) c) refl
  where
    live : List ℕ
    live = waiting_at r.trace (turns_of r) (c + 1)

    all : AllPass (waits r.trace (turns_of r) (c + 1)) live
    all = all_where-pass (waits r.trace (turns_of r) (c + 1)) (live_count r.trace)

    kept : ((i : ℕ) → waits r.trace (turns_of r) (c + 1) i ≡ true → response_clock_of r.trace i ≡ Some c → ⊥)
        → Matched (IsAnsweredTo r c) list live
    kept none =
        Matched-into (IsCancelledTo r c) (IsAnsweredTo r c) (waits r.trace (turns_of r) (c + 1)) list live all
        (λ x i waiting entry. unanswered-entry r c i x entry (none i waiting)) entries

    silent : responded_in (past_of r) c ≡ None → (i : ℕ) → waits r.trace (turns_of r) (c + 1) i ≡ true
        → response_clock_of r.trace i ≡ Some c → ⊥
    silent none i waiting response =
        let long = h.long in
        let l : c < length r.trace = omega arith in
        let a = waits-parts r.trace (turns_of r) (c + 1) i waiting in
        let there = number-responded r i c a.clock l (orderly-whole r c h.timely l)
        (record { response = response; first = a.is_clock }) in
        let no : None ≡ Some a.clock = sym none ∙ there in
        cc

    others : (q k : ℕ) → Responds r k c q → was_deferred (past_of r) c q ≡ false → (i : ℕ)
        → waits r.trace (turns_of r) (c + 1) i ≡ true → response_clock_of r.trace i ≡ Some c → ⊥
    others q k responds off i waiting response = grind (arith, one-response, waits-deferred)

    by : (o : Option ℕ) → responded_in (past_of r) c ≡ o → Matched (IsAnsweredTo r c) (after_response r c list) live
    by None e = grind (arith, after-no-response, kept, silent)
    by (Some q) e =
        let long = h.long in
        let k = responded-number r c q h.timely (omega arith) e in
        elim (cases_Bool (was_deferred (past_of r) c q)) [
          | inl t ↦
              subst (λ xs. Matched (IsAnsweredTo r c) xs live) (sym (after-answer r c q list e t))
              (Matched-map (IsCancelledTo r c) (IsAnsweredTo r c) (waits r.trace (turns_of r) (c + 1))
              (with_answer (requests_below r.trace q) c) list live all
              (λ x i waiting entry. answered-entry r c k.0 q i x k.1 waiting entry
              (nat_eq x.deferral.number (requests_below r.trace q)) refl) entries)
          | inr f ↦
              subst (λ xs. Matched (IsAnsweredTo r c) xs live) (sym (after-others r c q list e f))
              (kept (others q k.0 k.1 f))
        ]
