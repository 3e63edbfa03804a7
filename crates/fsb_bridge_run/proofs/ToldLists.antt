-- A list that has the deferrals of a run with the reply that began at the clock before, one clock on: what the
-- clock does
-- to it comes to the same, whether the reply that begins is told before the rest or behind it.
use Rattle.fsb_bridge_run.proofs.Words
use Words.{ℕ, ◌+◌, ◌≡◌, Bool, true, false, List, [], ◌∷◌, ◌++◌, map, Option, Some, None, nat_eq, refl, sym, ap, subst}
use Words.{◌∙◌, arith, inr, add-one, both_ways, eqb-true, false_from_ne_true, Request, Trace, request_at, is_answered}
use Words.{is_deferral, is_reply_kind, snoop_end_of, live_request_of-at, snooped_at, SnoopEnd, Run, past_of, reply_to}
use Words.{tied-snoop, wants-lawfully, cancelled_in, cancels, snooped-by, Reaches, Waiting, with_reply, rest, rest_more}
use Words.{after_beginning, after_cancellation, after_clock, after_reply, after_response, after_snoop_end}
use Words.{after_snoop_end_of, deferral_made, reply_at, reply_begun, FindsDeferrals, HasDeferrals, turns_of}
use Rattle.fsb_bridge_run.proofs.BegunReplies.{BegunFor, begun-for, begun-waits}
use Rattle.fsb_bridge_run.proofs.DueReplies.{answers-due, due-waits}
use Rattle.fsb_bridge_run.proofs.OwnIds.{one-id}
use Rattle.fsb_bridge_run.proofs.RepliesAt.{reply_at-parts}
use Rattle.fsb_bridge_run.proofs.LaterTraces.{clock-finds}
use Rattle.fsb_bridge_run.proofs.RunLists.{clock-leaves}
use Rattle.fsb_bridge_run.proofs.SnoopEntries.{after-deferral, after-plain, after-reply, after_snoop_end-lost}
use Rattle.fsb_bridge_run.proofs.SnoopEntries.{after_snoop_end-none, after_snoop_end-some}
use Rattle.fsb_bridge_run.proofs.Waiting.{answered-from, waits-parts}
use Rattle.fsb_bridge_run.proofs.WaitingSteps.{IsSnoopedHere, plain-on, settled-here, waits-new}

map-commutes : {X : Type 0} (f g : X → X) (xs : List X) → ((x : X) → f (g x) ≡ g (f x))
    → map f (map g xs) ≡ map g (map f xs)
map-commutes f g [] same = refl
map-commutes f g (x ∷ xs) same = λ i. same x i ∷ map-commutes f g xs same i

map-append : {X : Type 0} (f : X → X) (xs ys : List X) → map f (xs ++ ys) ≡ map f xs ++ map f ys
map-append f [] ys = refl
map-append f (x ∷ xs) ys = ap (λ zs. f x ∷ zs) (map-append f xs ys)

rest-map : {X : Type 0} (p : X → Bool) (f : X → X) (xs : List X) → ((x : X) → p (f x) ≡ p x)
    → rest p (map f xs) ≡ map f (rest p xs)
rest-map p f [] same = refl
rest-map p f (x ∷ xs) same = grind (arith, rest_more, rest-map p f xs same)

-- a mark before the snoop end of a clock, where a deferral that is made keeps without it
snoop-marked : (r : Run) (n d : ℕ) (b : Bool) (list : List Waiting)
    → ((s : SnoopEnd) (request : Request) → snooped_at (past_of r) n ≡ Some s
    → request_at r.trace s.first ≡ Some request → is_reply_kind request.kind ≡ false → is_deferral s.outcome ≡ true
    → with_reply d b (deferral_made r.trace n s request) ≡ deferral_made r.trace n s request)
    → after_snoop_end r n (map (with_reply d b) list) ≡ map (with_reply d b) (after_snoop_end r n list)
snoop-marked r n d b list made = by (snooped_at (past_of r) n) refl
  where
    w : Trace
    w = r.trace

    g : Waiting → Waiting
    g = with_reply d b

    by-kind : (s : SnoopEnd) (request : Request) → snooped_at (past_of r) n ≡ Some s
        → request_at w s.first ≡ Some request
        → after_snoop_end_of w n s request (map g list) ≡ map g (after_snoop_end_of w n s request list)
    by-kind s request e f = grind (arith, after-reply, rest-map, after-deferral, map-append, after-plain)

    by-request : (s : SnoopEnd) → snooped_at (past_of r) n ≡ Some s → (o : Option Request) → request_at w s.first ≡ o
        → after_snoop_end r n (map g list) ≡ map g (after_snoop_end r n list)
    by-request s e None f = grind (arith, after_snoop_end-lost)
    by-request s e (Some request) f =
        after_snoop_end-some r n (map g list) s request e f ∙ by-kind s request e f
        ∙ sym (ap (map g) (after_snoop_end-some r n list s request e f))

    by : (o : Option SnoopEnd) → snooped_at (past_of r) n ≡ o
        → after_snoop_end r n (map g list) ≡ map g (after_snoop_end r n list)
    by None e = after_snoop_end-none r n (map g list) e ∙ sym (ap (map g) (after_snoop_end-none r n list e))
    by (Some s) e = by-request s e (request_at w s.first) refl

made-other : (w : Trace) (n d : ℕ) (s : SnoopEnd) (request : Request) → nat_eq request.did d ≡ false
    → with_reply d true (deferral_made w n s request) ≡ deferral_made w n s request
unfolding deferral_made
made-other w n d s request f = rw f refl

-- the cancellation may come before the snoop end or behind it
cancelled-first : (r : Run) (n : ℕ) (list : List Waiting)
    → after_snoop_end r n (after_cancellation r n list) ≡ after_cancellation r n (after_snoop_end r n list)
unfolding after_cancellation after_reply deferral_made
cancelled-first r n list = grind (arith, snoop-marked)

-- a mark before the response, or behind it
response-marked : (r : Run) (n d : ℕ) (b : Bool) (list : List Waiting)
    → after_response r n (map (with_reply d b) list) ≡ map (with_reply d b) (after_response r n list)
unfolding after_response
response-marked r n d b list = grind (arith, map-commutes)

-- a mark before the cancellation, where the two are for replies with other IDs
cancelled-marked : (r : Run) (n d : ℕ) (list : List Waiting)
    → ((q : ℕ) (reply : Request) → cancelled_in (past_of r) n ≡ Some q → reply_at r.trace q ≡ Some reply
    → nat_eq reply.did d ≡ false)
    → after_cancellation r n (map (with_reply d true) list) ≡ map (with_reply d true) (after_cancellation r n list)
unfolding after_cancellation after_reply
cancelled-marked r n d list other = grind (arith, map-commutes)

-- it is not the one to which a reply is cancelled
begun-uncancelled : (r : Run) (n q : ℕ) (reply dropped : Request) → Reaches r (n + 1) → BegunFor r n reply
    → cancelled_in (past_of r) n ≡ Some q → reply_at r.trace q ≡ Some dropped → nat_eq dropped.did reply.did ≡ false
unfolding reply_to
begun-uncancelled r n q reply dropped h b cancelled begins = false_from_ne_true (nat_eq dropped.did reply.did) (λ t.
    let w = r.trace in
    let long = h.long in
    let parts = reply_at-parts w q dropped begins in
    let k = cancels r n q (omega arith) cancelled in
    let at = k.0 in
    let d = answers-due r q h.timely (wants-lawfully r h.bounds) h.bounds.few_ahead (omega arith) parts.0 parts.1 in
    let gap = d.gap in
    let after = d.after in
    let shown = d.shown in
    let decoded = parts.2 in
    let same : reply_to d.request ≡ dropped = cc in
    let did : b.request.did ≡ d.request.did = grind arith in
    let due = due-waits r q n d (omega arith) (omega arith) in
    let first = b.due.gap in
    let last = b.due.after in
    let waiting = begun-waits r n n reply b (omega arith) (omega arith) in
    let one = one-id r (n + 1) n b.number d.number b.request d.request h (omega arith) waiting due b.asked
    d.asked did in
    both_ways (is_answered w n b.number) b.unanswered
    (subst (λ x. is_answered w n x ≡ true) (sym one)
    (answered-from w n d.number q (record { below = omega arith; reply = d.answers; kept = inr (omega arith) }))))

-- and not one that is Deferred at n
begun-earlier : (r : Run) (n : ℕ) (reply : Request) (s : SnoopEnd) (request : Request) → Reaches r (n + 1)
    → BegunFor r n reply → snooped_at (past_of r) n ≡ Some s → request_at r.trace s.first ≡ Some request
    → is_reply_kind request.kind ≡ false → is_deferral s.outcome ≡ true → nat_eq request.did reply.did ≡ false
begun-earlier r n reply s request h b there decoded plain deferred =
    false_from_ne_true (nat_eq request.did reply.did) (λ t.
    let w = r.trace in
    let tied = tied-snoop r n s there in
    let i : ℕ = tied.0 in
    let k = snooped-by r n i s tied.1 in
    let here : IsSnoopedHere r n i s request = record { snooped = k; decoded = decoded } in
    let new = waits-new r n i h k.tied.reached (settled-here r n i s k ∙ deferred) in
    let first = b.due.gap in
    let last = b.due.after in
    let waiting = begun-waits r n n reply b (omega arith) (omega arith) in
    let on = plain-on r n i b.number s request here plain waiting in
    let asked = live_request_of-at w i s.first request k.tied.first decoded in
    let same = one-id r (n + 1) (n + 1) i b.number request b.request h (omega arith) new on asked b.asked
    (eqb-true request.did reply.did t ∙ b.did) in
    let a = waits-parts w (turns_of r) n b.number waiting in
    let below = a.below in
    let reached = subst (λ x. snoop_end_of w x ≡ Some n) same k.tied.reached in
    let is = a.is_snoop in
    let at : a.snoop ≡ n = cc in
    omega arith)

after-none : (list : List Waiting) → after_reply None true list ≡ list
unfolding after_reply
after-none list = refl

-- so what a clock does with the reply that begins is what it does, and then the reply
clock-told : (r : Run) (n : ℕ) (list : List Waiting) → Reaches r (n + 1)
    → after_clock r n list
    ≡ after_reply (reply_begun r n) true (after_response r n (after_cancellation r n (after_snoop_end r n list)))
unfolding after_clock after_reply
clock-told r n list h = by (reply_begun r n) refl
  where
    by : (o : Option Request) → reply_begun r n ≡ o → after_clock r n list
        ≡ after_reply (reply_begun r n) true (after_response r n (after_cancellation r n (after_snoop_end r n list)))
    by None e = rw (after_clock, e) (ap (after_response r n) (cancelled-first r n list))
    by (Some reply) e =
        let b = begun-for r n reply h e in
        let g = with_reply reply.did true in
        rw (after_clock, e)
        (ap (λ xs. after_response r n (after_snoop_end r n xs)) (cancelled-marked r n reply.did list
        (λ q dropped cancelled begins. begun-uncancelled r n q reply dropped h b cancelled begins))
        ∙ ap (after_response r n) (snoop-marked r n reply.did true (after_cancellation r n list)
        (λ s request there decoded plain deferred.
        made-other r.trace n reply.did s request (begun-earlier r n reply s request h b there decoded plain deferred)))
        ∙ response-marked r n reply.did true (after_snoop_end r n (after_cancellation r n list))
        ∙ ap (λ xs. map g (after_response r n xs)) (cancelled-first r n list))

-- a clock finds the list as it is
pub finds : (r : Run) (n : ℕ) (list : List Waiting) → Reaches r (n + 1) → HasDeferrals list r n
    → FindsDeferrals list r n
finds r n list h has =
    subst (λ xs. FindsDeferrals xs r n) (sym has.begun) (clock-finds r n has.shown h has.shows)

after-next : (r : Run) (n : ℕ) (list : List Waiting)
    → after_reply (reply_begun r n) true list ≡ after_beginning r (n + 1) list
unfolding after_beginning
after-next r n list = sym (ap (λ k. after_beginning r k list) (add-one n))

-- and leaves it with the reply that begins
pub leaves-list : (r : Run) (n : ℕ) (list : List Waiting) → Reaches r (n + 1) → HasDeferrals list r n
    → HasDeferrals (after_clock r n list) r (n + 1)
leaves-list r n list h has = record {
  shown = after_response r n (after_cancellation r n (after_snoop_end r n list));
  shows = clock-leaves r n list h (finds r n list h has);
  begun = clock-told r n list h ∙ after-next r n _;
}
