-- What is known of the request that is snooped next.
use Rattle.std.specs.Prelude.{◌≡◌, ℕ, Bool, false, ◌&&◌, ◌||◌, if◌then◌else◌, Option, Some, None}
use Rattle.fsb_trace.specs.At.{Trace}
use Rattle.fsb_trace.specs.Requests.{is_reply, is_write_back, live_clock_of, live_request_of}
use Rattle.fsb_trace.specs.Snoop.{is_every_second_from, is_snoop_clock, snoop_end_of, snoop_start_of}
use Rattle.fsb_reasons.specs.declared.reason.SnoopLines.{SnoopLines}
use Rattle.fsb_reasons.specs.Holds.{next_snoop}
use Rattle.fsb_why_queue.specs.declared.snoops.Snooping.{Snooping}

-- it is the live request that is snooped next at c, the last clock of v, and no other has its snoop
-- end there
pub record IsSnooping (snooping : Snooping) (v : Trace) (c : ℕ) : Type 0 where
  pub next : next_snoop v c ≡ Some snooping.request.number
  pub clock : live_clock_of v snooping.request.number ≡ Some snooping.request.clock
  pub start : snoop_start_of v snooping.request.number ≡ Some snooping.start
  pub due : is_snoop_clock v c ≡ is_every_second_from snooping.start c
  pub ends : snoop_end_of v snooping.request.number ≡ (if snooping.ends then Some c else None)
  pub alone : (i : ℕ) → snoop_end_of v i ≡ Some c → i ≡ snooping.request.number
  pub decoded : snooping.decoded ≡ live_request_of v snooping.request.number

-- every live request has had its snoop end below c
pub record HasNoSnoop (v : Trace) (c : ℕ) : Type 0 where
  pub next : next_snoop v c ≡ None
  pub due : is_snoop_clock v c ≡ false
  pub ends : (i : ℕ) → snoop_end_of v i ≡ Some c → ⊥

abbrev pub SaysSnooping : Trace → ℕ → Option Snooping → Type 0
SaysSnooping v c None = HasNoSnoop v c
SaysSnooping v c (Some snooping) = IsSnooping snooping v c

-- these lines do not fit it, whose snoop ends with them
abbrev pub unfit_by : Snooping → SnoopLines → Bool
unfit_by snooping lines =
    (is_write_back snooping.decoded || is_reply snooping.decoded) && (lines.hitm || lines.defer)
    || is_write_back snooping.decoded && lines.hit
