-- How far the live requests of a trace were gone through, and what is looked for next.
use Rattle.std.specs.Prelude.{◌≡◌, ℕ, zero, suc, ◌+◌, Bool, Option, Some, length}
use Rattle.std.specs.Option.{option_map}
use Rattle.fsb_count.specs.Options.{is_some_and}
use Rattle.fsb_count.specs.Clocks.{nth_where, from_clock}
use Rattle.fsb_signal.specs.declared.lines.TheConstants.Lines.{HITM, DRDY}
use Rattle.fsb_signal.specs.Samples.{line_at}
use Rattle.fsb_trace.specs.At.{Trace, responds_at}
use Rattle.fsb_trace.specs.Snoop.{snoop_end_of}
use Rattle.fsb_trace.specs.Outcome.{response_clock_of}
use Rattle.fsb_table.specs.declared.going.Going.{Going}

-- the clock from which the snoop of live request i may start, by the snoop end before it
unfoldable pub clear_of : Trace → ℕ → Option ℕ
clear_of w zero = Some 0
clear_of w (suc i) = option_map (λ s. s + 3) (snoop_end_of w i)

-- the live requests before the i-th were gone through: the response of the i-th is the first from a clock on
pub record Stands (going : Going) (w : Trace) (i : ℕ) : Type 0 where
  pub clear : going.clear ≡ clear_of w i
  pub response : response_clock_of w i ≡ nth_where (from_clock going.unanswered (responds_at w)) 0 (length w)

-- an owner hands on the line of a request with this snoop end
abbrev pub is_handed_by : Trace → Option ℕ → Bool
is_handed_by w snoop = is_some_and snoop (line_at HITM w)

-- the fourth clock with data from r on
unfoldable pub fourth_from : Trace → ℕ → Option ℕ
fourth_from w r = nth_where (from_clock r (line_at DRDY w)) 3 (length w)
