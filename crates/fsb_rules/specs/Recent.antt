-- What is kept of the last three clocks.
use Rattle.std.specs.Prelude.{◌≡◌, ℕ, ◌-◌, true, length, Option, unwrap_or}
use Rattle.std.specs.Option.{option_and_then}
use Rattle.fsb_signal.specs.declared.lines.Lines.{Lines}
use Rattle.fsb_signal.specs.declared.lines.TheConstants.Lines.{ADS}
use Rattle.fsb_signal.specs.declared.sample.Sample.{Sample}
use Rattle.fsb_encode.specs.declared.request.Pair.{Pair}
use Rattle.fsb_encode.specs.declared.request.Request.{Request}
use Rattle.fsb_encode.specs.Decoded.{request_of}
use Rattle.fsb_trace.specs.At.{Trace, known_pair, known_pair_at, line_back}
use Rattle.fsb_arbiter.specs.Arbiter.{lines_back}
use Rattle.fsb_rules.specs.declared.recent.Recent.{Recent}

-- the control lines that are asserted d clocks before the next one: none where there is no such clock
unfoldable pub asserted_back : Trace → ℕ → Lines
asserted_back h d = unwrap_or (lines_back h d) (record { 0 = 0 })

-- the last three clocks of the history, and the words of the last one where a request begins there
pub record RecentStands (recent : Recent) (h : Trace) : Type 0 where
  pub first : recent.first ≡ asserted_back h 1
  pub second : recent.second ≡ asserted_back h 2
  pub third : recent.third ≡ asserted_back h 3
  pub words : line_back ADS h (length h) 1 ≡ true → recent.words ≡ known_pair_at h (length h - 1)

-- the request of two clocks whose first has these words, and whose second is the sample
unfoldable pub request_by : Option Pair → Sample → Option Request
request_by words x = option_and_then (λ b. option_and_then (λ a. request_of a b) words) (known_pair x)
