-- The request that began at the last clock of a trace.
use Rattle.std.specs.Prelude.{◌≡◌, ℕ, ◌+◌, ◌-◌, ◌/◌, true, false, Option, Some, None, length, slice_get}
use Rattle.std.specs.Option.{option_and_then}
use Rattle.fsb_encode.specs.declared.request.Request.{Request}
use Rattle.fsb_encode.specs.Decoded.{request_of}
use Rattle.fsb_signal.specs.declared.lines.TheConstants.Lines.{ADS}
use Rattle.fsb_signal.specs.declared.sample.Sample.{Sample}
use Rattle.fsb_trace.specs.declared.who.Who.{Who}
use Rattle.fsb_trace.specs.declared.who.Who.TheVariants.{Symmetric, Priority}
use Rattle.fsb_trace.specs.At.{Trace, known_pair, line_back}
use Rattle.fsb_trace.specs.Winner.{winner_at}
use Rattle.fsb_owner_feed.specs.declared.begins.FirstClock.{FirstClock}

-- the request of two clocks with these samples
unfoldable pub decoded_by : Sample → Sample → Option Request
decoded_by first second =
    option_and_then (λ a. option_and_then (λ b. request_of a b) (known_pair second)) (known_pair first)

-- the line that this winner names with the address word of this sample
unfoldable pub line_by : Option Who → Sample → Option ℕ
line_by None first = None
line_by (Some (Symmetric a)) first = Some (first.addr.bits / 4)
line_by (Some Priority) first = None

-- the request begins at q, the last clock of h
pub record IsLast (begins : FirstClock) (q : ℕ) (h : Trace) : Type 0 where
  pub last : length h ≡ q + 1
  pub who : begins.who ≡ winner_at h q
  pub first : slice_get h q ≡ Some begins.first

-- a request began at the last clock, and this is it; or none did
abbrev pub SaysBegins : Option FirstClock → Trace → Type 0
SaysBegins None h = line_back ADS h (length h) 1 ≡ false
SaysBegins (Some begins) h = (line_back ADS h (length h) 1 ≡ true) × IsLast begins (length h - 1) h
