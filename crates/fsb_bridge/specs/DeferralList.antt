-- A list of deferrals that stands for those of a trace, and what is asked of a trace for the list to answer as it does.
use Rattle.std.specs.Prelude.{◌≡◌, ℕ, ◌<◌, ◌≤◌, Bool, true, not, ◌&&◌, ◌==◌, if◌then◌else◌, List, map, Option, Some, None, slice_index}
use Rattle.std.specs.Option.{option_map, option_and_then}
use Rattle.fsb_count.specs.Options.{is_some_and, is_before}
use Rattle.fsb_count.specs.Clocks.{count_where, all_where, first_where}
use Rattle.fsb_signal.specs.declared.lines.TheConstants.Lines.{ADS, HIT}
use Rattle.fsb_signal.specs.Samples.{line_at}
use Rattle.fsb_trace.specs.At.{Trace}
use Rattle.fsb_trace.specs.Requests.{live_count, live_clock_of, live_request_of, line_of, have_same_id}
use Rattle.fsb_trace.specs.Snoop.{snoop_end_of, line_at_snoop_end}
use Rattle.fsb_trace.specs.Outcome.{response_clock_of, is_settled_deferred}
use Rattle.fsb_trace.specs.Flight.{reply_number_of}
use Rattle.fsb_trace.specs.Deferral.{is_answered, later_of}
use Rattle.fsb_bridge.specs.declared.deferral.Deferral.{Deferral}
use Rattle.fsb_bridge.specs.declared.deferral.Waiting.{Waiting}

-- live request i waits for its reply at c: it is Deferred, has its snoop end below c, and no reply to it has its own
-- snoop end below c
unfoldable pub waits : Trace → List ℕ → ℕ → ℕ → Bool
waits w turns c i =
    is_settled_deferred w turns i && is_before (snoop_end_of w i) c
    && not (is_before (option_and_then (snoop_end_of w) (reply_number_of w i)) c)

-- the live requests that wait for their replies at c, in order
unfoldable pub waiting_at : Trace → List ℕ → ℕ → List ℕ
waiting_at w turns c = all_where (waits w turns c) (live_count w)

-- those of them besides i
unfoldable pub waiting_besides : Trace → List ℕ → ℕ → ℕ → List ℕ
waiting_besides w turns c i = all_where (λ k. waits w turns c k && not (k == i)) (live_count w)

-- the number of live request i among all requests, from 0; those that were cancelled count
unfoldable pub request_number_of : Trace → ℕ → Option ℕ
request_number_of w i = option_map (count_where (line_at ADS w)) (live_clock_of w i)

-- the line that live request i names, as its first clock shows it
unfoldable pub live_line_of : Trace → ℕ → Option ℕ
live_line_of w i = option_and_then (line_of w) (live_clock_of w i)

-- the response clock of live request i, once it lies below c
unfoldable pub response_before : Trace → ℕ → ℕ → Option ℕ
response_before w c i = if is_before (response_clock_of w i) c then response_clock_of w i else None

-- the list has an entry for each of these live requests, in order: with its number among all requests, its request, whose
-- line shows at the first clock already, whether HIT# was asserted at its snoop end, how much later its reply is due,
-- its response clock once that lies below c, and whether a reply to it is under way at c
pub record AreEntriesOf (live : List ℕ) (list : List Waiting) (w : Trace) (turns : List ℕ) (c : ℕ) : Type 0 where
  pub numbers : map (λ e. Some e.deferral.number) list ≡ map (request_number_of w) live
  pub requests : map (λ e. Some e.deferral.request) list ≡ map (live_request_of w) live
  pub lines : map (λ e. Some e.deferral.request.line) list ≡ map (live_line_of w) live
  pub shared : map (λ e. e.deferral.shared) list ≡ map (line_at_snoop_end HIT w) live
  pub later : map (λ e. e.later) list ≡ map (λ i. later_of (slice_index turns i)) live
  pub answered : map (λ e. e.answered) list ≡ map (response_before w c) live
  pub begun : map (λ e. e.begun) list ≡ map (is_answered w c) live

-- the list stands for the deferrals of the trace w that wait for their replies at c, where the effective turns of the live
-- requests are these, in order: 0 to keep, 1 to retry, two more than the clocks for which a request is put off
abbrev pub StandsFor : List Waiting → Trace → List ℕ → ℕ → Type 0
StandsFor list w turns c = AreEntriesOf (waiting_at w turns c) list w turns c

-- the deferral is that of live request i: it has its number, its request, and its HIT#
pub record IsDeferralOf (w : Trace) (deferral : Deferral) (i : ℕ) : Type 0 where
  pub number : request_number_of w i ≡ Some deferral.number
  pub request : live_request_of w i ≡ Some deferral.request
  pub shared : deferral.shared ≡ line_at_snoop_end HIT w i

-- the answer is the deferral of this live request, and none where there is no such request
abbrev pub IsThatOf : Trace → Option Deferral → Option ℕ → Type 0
IsThatOf w None request = request ≡ None
IsThatOf w (Some deferral) request = (i : ℕ) × (request ≡ Some i) × IsDeferralOf w deferral i

-- no request that responds below c does so before its snoop end
pub record RespondsInOrder (w : Trace) (c : ℕ) : Type 0 where
  pub after : (i s r : ℕ) → snoop_end_of w i ≡ Some s → response_clock_of w i ≡ Some r → r < c → s ≤ r

-- the requests that wait for their replies at c have IDs of their own
pub record HaveOwnIds (w : Trace) (turns : List ℕ) (c : ℕ) : Type 0 where
  pub one : (i k : ℕ) → waits w turns c i ≡ true → waits w turns c k ≡ true
      → have_same_id (live_request_of w i) (live_request_of w k) ≡ true → i ≡ k

-- live request i waits for its reply at c, and has this ID
unfoldable pub waits_with_id : Trace → List ℕ → ℕ → ℕ → ℕ → Bool
waits_with_id w turns c did i =
    is_some_and (live_request_of w i) (λ request. request.did == did) && waits w turns c i

-- the least live request that waits for its reply at c and has this ID
unfoldable pub first_waiting_with_id : Trace → List ℕ → ℕ → ℕ → Option ℕ
first_waiting_with_id w turns c did = first_where (waits_with_id w turns c did) (live_count w)
