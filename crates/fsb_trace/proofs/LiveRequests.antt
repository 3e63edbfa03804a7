-- Live requests: their clocks, numbers and words, and what their snoop ends tell.
use Rattle.std.proofs.Common.{ℕ, ◌<◌, ◌≡◌, true, List, Some, length, slice_index, refl, ap, arith}
use Rattle.std.specs.Option.{option_map}
use Rattle.fsb_count.specs.Options.{is_some_and}
use Rattle.fsb_count.specs.Clocks.{count_where}
use Rattle.fsb_count.proofs.Interface.{count_where-above, nth_where-found, nth_where-at}
use Rattle.fsb_encode.specs.declared.request.Request.{Request}
use Rattle.fsb_trace.specs.At.{Trace, request_at}
use Rattle.fsb_trace.specs.Requests.{is_live, live_clock_of, live_count, live_number_of, live_request_of, is_reply}
use Rattle.fsb_trace.specs.Requests.{is_reply_kind}
use Rattle.fsb_trace.specs.Snoop.{snoop_end_of}
use Rattle.fsb_trace.specs.Outcome.{settled_by, settled_outcome_of}

-- the clock of the number of a live request is its own
pub live_clock_of-number : (w : Trace) (p : ℕ) → p < length w → is_live w p ≡ true
    → live_clock_of w (live_number_of w p) ≡ Some p
unfolding live_clock_of live_number_of
live_clock_of-number w p l t = nth_where-at (is_live w) (length w) p l t

-- a live request that has its clock is one of those that are counted
pub live_below_count : (w : Trace) (i q : ℕ) → live_clock_of w i ≡ Some q → i < live_count w
unfolding live_clock_of live_count
live_below_count w i q e =
    let p = nth_where-found (is_live w) i (length w) q e in
    let more : count_where (is_live w) q < count_where (is_live w) (length w) =
    count_where-above (is_live w) q (length w) p.0 p.1 in
    omega (arith, p.2)

-- a live request is the one that stands at its clock
pub live_request_of-at : (w : Trace) (i p : ℕ) (r : Request) → live_clock_of w i ≡ Some p
    → request_at w p ≡ Some r → live_request_of w i ≡ Some r
unfolding live_request_of
live_request_of-at w i p r e f = rw (e, f) refl

-- a request is a reply by its kind
pub is_reply-some : (r : Request) → is_reply (Some r) ≡ is_reply_kind r.kind
unfolding is_reply is_some_and
is_reply-some r = refl

-- a request with a snoop end has its outcome settled there
pub settled_outcome_of-ended : (w : Trace) (turns : List ℕ) (i n : ℕ) → snoop_end_of w i ≡ Some n
    → settled_outcome_of w turns i ≡ Some (settled_by w (slice_index turns i) i n)
unfolding settled_outcome_of
settled_outcome_of-ended w turns i n e = ap (option_map (settled_by w (slice_index turns i) i)) e
