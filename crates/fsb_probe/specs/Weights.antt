-- What samples weigh.
use Rattle.std.specs.Prelude.{ℕ, List, map, sum_by, if◌then◌else◌}
use Rattle.std.specs.Int.RustNames.{count_ones}
use Rattle.fsb_signal.specs.declared.lines.TheConstants.Lines.{DRDY}
use Rattle.fsb_signal.specs.declared.sample.Sample.{Sample}
use Rattle.fsb_signal.specs.ControlLines.{line_with}
use Rattle.fsb_signal.specs.Samples.{bit_of, has_line}

-- 1 where the line of this bit is asserted, and 0 where it is not
abbrev pub line_weight : ℕ → Sample → ℕ
line_weight bit s = bit_of s (line_with bit)

-- how many data bits are asserted where DRDY# is, and 0 where it is not
abbrev pub data_weight : Sample → ℕ
data_weight s = if has_line s DRDY then count_ones s.dbus.bits else 0

-- what the samples of a trace weigh together
abbrev pub total_weight : (Sample → ℕ) → List Sample → ℕ
total_weight weight w = sum_by weight w

-- the totals of the objects that weigh samples so, once they were shown a trace
abbrev pub totals_of : List (Sample → ℕ) → List Sample → List ℕ
totals_of weights w = map (λ weight. total_weight weight w) weights
