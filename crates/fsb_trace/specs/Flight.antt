-- Requests in flight, and requests that are outstanding.
use Rattle.std.specs.Prelude.{ℕ, ◌+◌, Bool, ◌&&◌, not, nat_lt, if◌then◌else◌, List, Option, length}
use Rattle.std.specs.Option.{option_map, option_and_then}
use Rattle.fsb_count.specs.Options.{is_before}
use Rattle.fsb_count.specs.Clocks.{first_where, all_where}
use Rattle.fsb_signal.specs.declared.lines.TheConstants.Lines.{ADS}
use Rattle.fsb_signal.specs.Samples.{line_at}
use Rattle.fsb_trace.specs.At.{Trace, request_at}
use Rattle.fsb_trace.specs.Requests.{is_cancelled, is_live, live_number_of, live_request_of, is_reply, have_same_id}
use Rattle.fsb_trace.specs.Outcome.{response_clock_of, is_deferred}
use Rattle.fsb_trace.specs.Response.{end_of}

-- the request that begins at q was cancelled, and its address error lies below c
unfoldable pub is_dropped : Trace → ℕ → ℕ → Bool
is_dropped w c q = is_cancelled w q && nat_lt (q + 3) c

-- the request that begins at q is live, and its end is below c
unfoldable pub has_ended : Trace → ℕ → ℕ → Bool
has_ended w c q = is_live w q && is_before (end_of w (live_number_of w q)) c

-- the request that begins at q is in flight at c: it began before, was not dropped, and has not ended
unfoldable pub is_in_flight : Trace → ℕ → ℕ → Bool
is_in_flight w c q = line_at ADS w q && nat_lt q c && not (is_dropped w c q) && not (has_ended w c q)

-- the first clocks of the requests in flight at c, in order
unfoldable pub in_flight : Trace → ℕ → List ℕ
in_flight w c = all_where (is_in_flight w c) c

-- the request that begins at q is a reply with the ID of live request i, and begins after i's response; it may be
-- cancelled
unfoldable pub is_reply_to : Trace → ℕ → ℕ → Bool
is_reply_to w i q =
    line_at ADS w q && is_reply (request_at w q) && have_same_id (request_at w q) (live_request_of w i)
    && is_before (response_clock_of w i) q

-- the request that begins at q is live, and such a reply
unfoldable pub is_live_reply_to : Trace → ℕ → ℕ → Bool
is_live_reply_to w i q = is_live w q && is_reply_to w i q

-- the first clock of the reply to live request i: of the first live one
unfoldable pub reply_clock_of : Trace → ℕ → Option ℕ
reply_clock_of w i = first_where (is_live_reply_to w i) (length w)

-- the number, among the live requests, of the reply to live request i
unfoldable pub reply_number_of : Trace → ℕ → Option ℕ
reply_number_of w i = option_map (live_number_of w) (reply_clock_of w i)

-- the end of the reply to live request i
unfoldable pub reply_end_of : Trace → ℕ → Option ℕ
reply_end_of w i = option_and_then (end_of w) (reply_number_of w i)

-- the clock up to which live request i is outstanding: its end, or, if it is Deferred, that of its reply
unfoldable pub last_clock_of : Trace → ℕ → Option ℕ
last_clock_of w i = if is_deferred w i then reply_end_of w i else end_of w i

-- the request that begins at q is live, and its last clock as outstanding lies below c
unfoldable pub is_finished : Trace → ℕ → ℕ → Bool
is_finished w c q = is_live w q && is_before (last_clock_of w (live_number_of w q)) c

-- the request that begins at q is outstanding at c: it is no reply, began before, was not dropped, and neither it
-- nor, if it is Deferred, its reply has ended
unfoldable pub is_outstanding : Trace → ℕ → ℕ → Bool
is_outstanding w c q =
    line_at ADS w q && nat_lt q c && not (is_reply (request_at w q)) && not (is_dropped w c q) && not (is_finished w c q)

-- the first clocks of the requests outstanding at c, in order
unfoldable pub outstanding : Trace → ℕ → List ℕ
outstanding w c = all_where (is_outstanding w c) c
