-- What follows from a request's being Deferred, due, or replied to.
use Rattle.std.proofs.Common.{ℕ, ◌≡◌, ◌<◌, ◌≤◌, ◌+◌, Bool, true, false, ◌||◌, List, Option, Some, None, length, refl}
use Rattle.std.proofs.Common.{sym, ◌∙◌, arith}
use Rattle.std.specs.Option.{option_map, option_and_then}
use Rattle.std.proofs.lemmas.Bool.{and_parts}
use Rattle.fsb_count.specs.Options.{is_some_and, is_before}
use Rattle.fsb_count.proofs.Interface.{any_where-at, first_where-found, is_before-parts}
use Rattle.fsb_trace.specs.At.{Trace}
use Rattle.fsb_trace.specs.Requests.{have_same_id, is_live, live_clock_of, live_count, live_number_of, live_request_of}
use Rattle.fsb_trace.specs.Snoop.{snoop_end_of}
use Rattle.fsb_trace.specs.Outcome.{is_settled_deferred, settled_outcome_of}
use Rattle.fsb_trace.specs.Flight.{is_in_flight, is_live_reply_to, is_reply_to, reply_clock_of, reply_number_of}
use Rattle.fsb_trace.specs.Deferral.{answers, is_answered}
use Rattle.fsb_trace.proofs.Interface.{live_below_count, live_clock_of-number, snoop_end_of-clock}
use Rattle.fsb_bridge.specs.DeferralList.{waits}

-- a value that passes a test is there
pub is_some_and-parts : {A : Type 0} (o : Option A) (test : A → Bool) → is_some_and o test ≡ true
    → (x : A) × (o ≡ Some x) × (test x ≡ true)
unfolding is_some_and
is_some_and-parts None test t = absurd (let no : ⊥ = cc in no)
is_some_and-parts (Some x) test t = (x, refl, t)

mapped : {A B : Type 0} (f : A → B) (o : Option A) (test : B → Bool) → is_some_and (option_map f o) test ≡ true
    → (x : A) × (o ≡ Some x)
unfolding is_some_and
mapped f None test t = absurd (let no : ⊥ = cc in no)
mapped f (Some x) test t = (x, refl)

-- a request that is Deferred has its snoop end
pub is_settled_deferred-ended : (w : Trace) (turns : List ℕ) (i : ℕ) → is_settled_deferred w turns i ≡ true
    → (s : ℕ) × (snoop_end_of w i ≡ Some s)
unfolding is_settled_deferred settled_outcome_of
is_settled_deferred-ended w turns i t = mapped _ (snoop_end_of w i) _ t

-- a request that waits is one of the live ones
pub waits-live : (w : Trace) (turns : List ℕ) (c i : ℕ) → waits w turns c i ≡ true → i < live_count w
unfolding waits
waits-live w turns c i t =
    let s = is_settled_deferred-ended w turns i (and_parts _ _ (and_parts _ _ t).0).0 in
    let h = snoop_end_of-clock w i s.0 s.1 in live_below_count w i h.clock h.is_clock

-- the reply to a live request, by its number: its clock, and that it is live and such a reply
pub record HasReply (w : Trace) (i j : ℕ) : Type 0 where
  pub clock : ℕ
  pub is_clock : live_clock_of w j ≡ Some clock
  pub is_live : is_live w clock ≡ true
  pub is_reply : is_reply_to w i clock ≡ true

replied : (w : Trace) (i q : ℕ) → reply_clock_of w i ≡ Some q → HasReply w i (live_number_of w q)
unfolding reply_clock_of is_live_reply_to
replied w i q e =
    let h = first_where-found (is_live_reply_to w i) (length w) q e in
    let parts = and_parts (is_live w q) (is_reply_to w i q) h.1 in
    record { clock = q; is_clock = live_clock_of-number w q h.0 parts.0; is_live = parts.0; is_reply = parts.1 }

reply_by : (w : Trace) (i j : ℕ) (o : Option ℕ) → reply_clock_of w i ≡ o
    → option_map (live_number_of w) o ≡ Some j → HasReply w i j
reply_by w i j None e f = absurd (let no : ⊥ = cc in no)
reply_by w i j (Some q) e f =
    let same : live_number_of w q ≡ j = cc in rw same at (replied w i q e)

pub reply_number_of-found : (w : Trace) (i j : ℕ) → reply_number_of w i ≡ Some j → HasReply w i j
unfolding reply_number_of
reply_number_of-found w i j e = reply_by w i j (reply_clock_of w i) refl e

either : (a b : Bool) → b ≡ true → (a || b) ≡ true
either true b t = refl
either false b t = t

then_parts : (g : ℕ → Option ℕ) (o : Option ℕ) (m : ℕ) → option_and_then g o ≡ Some m
    → (j : ℕ) × (o ≡ Some j) × (g j ≡ Some m)
then_parts g None m e = absurd (let no : ⊥ = cc in no)
then_parts g (Some j) m e = (j, refl, e)

-- a request whose reply has its snoop end below c is answered at c
pub is_answered-ended : (w : Trace) (c i : ℕ)
    → is_before (option_and_then (snoop_end_of w) (reply_number_of w i)) c ≡ true → is_answered w c i ≡ true
unfolding is_answered answers
is_answered-ended w c i t =
    let end = is_before-parts (option_and_then (snoop_end_of w) (reply_number_of w i)) c t in
    let m : ℕ = end.0 in
    let low : m < c = end.2 in
    let parts = then_parts (snoop_end_of w) (reply_number_of w i) m end.1 in
    let reply = reply_number_of-found w i parts.0 parts.1 in
    let q : ℕ = reply.clock in
    let h = snoop_end_of-clock w parts.0 m parts.2 in
    let above : h.clock + 4 ≤ m = h.above in
    let same : h.clock ≡ q = let a = sym h.is_clock ∙ reply.is_clock in cc in
    any_where-at (answers w c i) c q (omega arith)
    (rw reply.is_reply (either (is_in_flight w c q) (is_live w q) reply.is_live))

-- the reply has the ID of the request that it answers
pub reply_number_of-id : (w : Trace) (i j : ℕ) → reply_number_of w i ≡ Some j
    → have_same_id (live_request_of w j) (live_request_of w i) ≡ true
unfolding is_reply_to live_request_of
reply_number_of-id w i j e =
    let reply = reply_number_of-found w i j e in
    let same = and_parts _ _ (and_parts _ _ reply.is_reply).0 in
    rw reply.is_clock same.1
