-- Traces whose requests keep their distance and whose responses come in time.
use Rattle.std.specs.Prelude.{◌≡◌, ◌<◌, ◌≤◌, ℕ, ◌+◌, true, Some}
use Rattle.fsb_signal.specs.declared.lines.TheConstants.Lines.{ADS}
use Rattle.fsb_signal.specs.Samples.{line_at}
use Rattle.fsb_trace.specs.At.{Trace}
use Rattle.fsb_trace.specs.Outcome.{response_clock_of}
use Rattle.fsb_trace.specs.Rules.{may_answer}

-- two requests are three clocks apart at least
pub record Spaced (h : Trace) : Type 0 where
  pub apart : (p q : ℕ) → p < q → line_at ADS h p ≡ true → line_at ADS h q ≡ true → p + 3 ≤ q

-- and each response comes two clocks after its request's snoop end at least, and after the end before
pub record Orderly (h : Trace) : Type 0 where
  pub spaced : Spaced h
  pub timely : (i r : ℕ) → response_clock_of h i ≡ Some r → may_answer h r i ≡ true
