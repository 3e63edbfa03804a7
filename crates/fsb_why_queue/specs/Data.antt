-- What is known of the data that are on the way.
use Rattle.std.specs.Prelude.{◌≡◌, ◌≤◌, ℕ, ◌+◌, true, false, ◌&&◌, nat_lt, if◌then◌else◌, Option, Some, None}
use Rattle.fsb_count.specs.Clocks.{count_where, from_clock, last_where}
use Rattle.fsb_signal.specs.declared.lines.TheConstants.Lines.{DBSY, DRDY}
use Rattle.fsb_signal.specs.declared.sample.Sample.{Sample}
use Rattle.fsb_signal.specs.Samples.{has_line, line_at}
use Rattle.fsb_trace.specs.At.{Trace, responds_at}
use Rattle.fsb_trace.specs.Requests.{live_clock_of}
use Rattle.fsb_trace.specs.Outcome.{moves_data, response_clock_of}
use Rattle.fsb_trace.specs.Rules.{is_transferring}
use Rattle.fsb_laws.specs.OneMore.{responds}
use Rattle.fsb_laws.specs.Progress.{response_count, transfer_of}
use Rattle.fsb_reasons.specs.declared.reason.Concerned.{Concerned}
use Rattle.fsb_why_queue.specs.declared.data.Transfer.{Transfer}

-- the data of this live request are on the way at c, the last clock of v; after it some are exactly where fewer than
-- four of its chunks came
pub record IsTransfer (coming : Transfer) (v : Trace) (c : ℕ) : Type 0 where
  pub clock : live_clock_of v coming.request.number ≡ Some coming.request.clock
  pub moves : moves_data v coming.request.number ≡ true
  pub response : response_clock_of v coming.request.number ≡ Some coming.response
  pub reached : coming.response ≤ c
  pub chunks : coming.chunks ≡ count_where (from_clock coming.response (line_at DRDY v)) c
  pub there : is_transferring v c ≡ true
  pub after : is_transferring v (c + 1) ≡ nat_lt (coming.chunks + (if line_at DRDY v c then 1 else 0)) 4

-- no data are on the way at c, the last clock of v, nor after it
pub record HasNoData (v : Trace) (c : ℕ) : Type 0 where
  pub there : is_transferring v c ≡ false
  pub after : is_transferring v (c + 1) ≡ false

abbrev pub SaysTransfer : Trace → ℕ → Option Transfer → Type 0
SaysTransfer v c None = HasNoData v c
SaysTransfer v c (Some coming) = IsTransfer coming v c

-- after h the data of this live request are on the way, which responded last
pub record IsUnderWay (coming : Transfer) (h : Trace) : Type 0 where
  pub last : response_count h ≡ coming.request.number + 1
  pub clock : live_clock_of h coming.request.number ≡ Some coming.request.clock
  pub response : response_clock_of h coming.request.number ≡ Some coming.response
  pub chunks : transfer_of h ≡ Some coming.chunks

abbrev pub SaysUnderWay : Trace → Option Transfer → Type 0
SaysUnderWay h None = transfer_of h ≡ None
SaysUnderWay h (Some coming) = IsUnderWay coming h

-- v is h and then the sample, which is the response of this request, and its data move; or it is no such response
pub record IsMover (request : Concerned) (h : Trace) (x : Sample) (v : Trace) : Type 0 where
  pub responds : responds x ≡ true
  pub moves : moves_data v (response_count h) ≡ true
  pub number : request.number ≡ response_count h
  pub clock : live_clock_of v request.number ≡ Some request.clock

abbrev pub SaysMover : Trace → Sample → Trace → Option Concerned → Type 0
SaysMover h x v None = (responds x && moves_data v (response_count h)) ≡ false
SaysMover h x v (Some request) = IsMover request h x v

-- c is the last clock of v, with this sample, and this the last response up to it
pub record IsEnd (v : Trace) (c : ℕ) (x : Sample) (last : Option ℕ) : Type 0 where
  pub drdy : line_at DRDY v c ≡ has_line x DRDY
  pub dbsy : line_at DBSY v c ≡ has_line x DBSY
  pub answered : last ≡ last_where (responds_at v) (c + 1)
