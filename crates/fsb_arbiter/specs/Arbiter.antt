-- The history that an arbiter stands for.
use Rattle.std.specs.Prelude.{◌≡◌, ℕ, ◌-◌, nat_le, if◌then◌else◌, Option, None, length, slice_get}
use Rattle.std.specs.Option.{option_map}
use Rattle.fsb_signal.specs.declared.lines.Lines.{Lines}
use Rattle.fsb_trace.specs.At.{Trace}
use Rattle.fsb_trace.specs.Winner.{last_agent, last_symmetric}
use Rattle.fsb_arbiter.specs.declared.arbiter.Arbiter.{Arbiter}

-- the control lines of the clock that lies d clocks before the next one, if there is such a clock
unfoldable pub lines_back : Trace → ℕ → Option Lines
lines_back h d = if nat_le d (length h) then option_map (λ s. s.lines) (slice_get h (length h - d)) else None

-- the arbiter keeps of the history what the next winners need
pub record Stands (arbiter : Arbiter) (h : Trace) : Type 0 where
  pub older : arbiter.older ≡ lines_back h 2
  pub newer : arbiter.newer ≡ lines_back h 1
  pub last : arbiter.last ≡ last_agent h (length h)
  pub symmetric : arbiter.symmetric ≡ last_symmetric h (length h)
