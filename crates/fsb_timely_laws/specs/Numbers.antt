-- The numbers of two traces that are the same so far.
use Rattle.std.specs.Prelude.{◌≡◌, ◌↔◌, ◌+◌, ◌≤◌, Some, ℕ}
use Rattle.fsb_count.specs.Clocks.{count_where}
use Rattle.fsb_signal.specs.declared.lines.TheConstants.Lines.{ADS}
use Rattle.fsb_signal.specs.Samples.{line_at}
use Rattle.fsb_trace.specs.At.{Trace}
use Rattle.fsb_trace.specs.Flight.{in_flight, reply_number_of}
use Rattle.fsb_trace.specs.Outcome.{response_clock_of}
use Rattle.fsb_trace.specs.Requests.{live_clock_of}
use Rattle.fsb_trace.specs.Response.{data_clock_of, end_of, ready_clock_of}
use Rattle.fsb_trace.specs.Snoop.{is_snoop_clock, snoop_end_of, snoop_start_of}

-- what one of the two traces reaches up to clock c, the other reaches with the same number: a live request is known by the
-- clock of its address error; first snoop clocks, snoop ends, ready clocks, responses, data clocks and ends are known at
-- once; so are the requests in flight and the snoop clocks, and the reply to a request once both have their snoop ends
pub record SameNumbers (c : ℕ) (w v : Trace) : Type 0 where
  pub begun : count_where (line_at ADS w) c ≡ count_where (line_at ADS v) c
  pub live : (i q : ℕ) → q + 3 ≤ c → live_clock_of w i ≡ Some q ↔ live_clock_of v i ≡ Some q
  pub snoop_start : (i s : ℕ) → s ≤ c → snoop_start_of w i ≡ Some s ↔ snoop_start_of v i ≡ Some s
  pub snoop_end : (i s : ℕ) → s ≤ c → snoop_end_of w i ≡ Some s ↔ snoop_end_of v i ≡ Some s
  pub ready : (i y : ℕ) → y ≤ c → ready_clock_of w i ≡ Some y ↔ ready_clock_of v i ≡ Some y
  pub response : (i r : ℕ) → r ≤ c → response_clock_of w i ≡ Some r ↔ response_clock_of v i ≡ Some r
  pub chunk : (i k d : ℕ) → d ≤ c → data_clock_of w i k ≡ Some d ↔ data_clock_of v i k ≡ Some d
  pub end : (i e : ℕ) → e ≤ c → end_of w i ≡ Some e ↔ end_of v i ≡ Some e
  pub reply : (i j s t : ℕ) → s ≤ c → snoop_end_of w i ≡ Some s → t ≤ c → snoop_end_of w j ≡ Some t
      → reply_number_of w j ≡ Some i ↔ reply_number_of v j ≡ Some i
  pub flight : in_flight w c ≡ in_flight v c
  pub snoop_clock : is_snoop_clock w c ≡ is_snoop_clock v c
