-- Why requests are to keep their distance: of two that begin closer, the number of the second among the live ones
-- changes when the first is cancelled.
use Rattle.std.proofs.Common.{◌≡◌, Some, None, [], ◌∷◌, refl}
use Rattle.fsb_count.specs.Clocks.{all_where, count_where, nth_where}
use Rattle.fsb_signal.specs.declared.lines.TheConstants.Lines.{ADS, AERR}
use Rattle.fsb_signal.specs.Samples.{line_at}
use Rattle.fsb_trace.specs.At.{Trace}
use Rattle.fsb_trace.specs.Requests.{is_cancelled, is_live, live_clock_of, live_number_of}
use Rattle.fsb_trace.proofs.Interface.{clock, idle}

-- requests begin at 0 and 1, and nothing is said against them so far
abbrev both_live : Trace
both_live = clock (ADS ∷ []) 0 0 ∷ (clock (ADS ∷ []) 0 0 ∷ (idle ∷ []))

-- and AERR# at 3 cancels the first
abbrev first_cancelled : Trace
first_cancelled = clock (ADS ∷ []) 0 0 ∷ (clock (ADS ∷ []) 0 0 ∷ (idle ∷ (clock (AERR ∷ []) 0 0 ∷ [])))

number-before : live_number_of both_live 1 ≡ 1
unfolding live_number_of count_where is_live is_cancelled line_at
number-before = refl

number-after : live_number_of first_cancelled 1 ≡ 0
unfolding live_number_of count_where is_live is_cancelled line_at
number-after = refl

second-before : live_clock_of both_live 1 ≡ Some 1
unfolding live_clock_of nth_where all_where is_live is_cancelled line_at
second-before = refl

second-after : live_clock_of first_cancelled 1 ≡ None
unfolding live_clock_of nth_where all_where is_live is_cancelled line_at
second-after = refl
