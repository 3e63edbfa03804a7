-- When a live request takes data into memory, when its target is ready, when its data move, and when it ends.
use Rattle.std.specs.Prelude.{ℕ, zero, suc, ◌+◌, Bool, true, ◌&&◌, ◌||◌, nat_lt, if◌then◌else◌, Option, None, length}
use Rattle.std.specs.Option.{option_map, option_and_then}
use Rattle.fsb_count.specs.Options.{is_before, greater_of}
use Rattle.fsb_count.specs.Clocks.{first_where, nth_where, from_clock}
use Rattle.fsb_signal.specs.declared.lines.TheConstants.Lines.{HITM, TRDY, DRDY}
use Rattle.fsb_signal.specs.Samples.{line_at}
use Rattle.fsb_trace.specs.At.{Trace}
use Rattle.fsb_trace.specs.Requests.{live_request_of, is_write_back}
use Rattle.fsb_trace.specs.Snoop.{snoop_end_of, line_at_snoop_end}
use Rattle.fsb_trace.specs.Outcome.{response_clock_of, live_response_of, moves_data}

-- live request i takes: memory is to take its data, since it is a write-back or HITM# is at its snoop end
unfoldable pub takes : Trace → ℕ → Bool
takes w i = is_write_back (live_request_of w i) || line_at_snoop_end HITM w i

-- the n-th data clock of live request i, from 0 to 3: where its data move, the n-th DRDY# clock from its response on;
-- there are four, and none where n is 4 or more
unfoldable pub data_clock_of : Trace → ℕ → ℕ → Option ℕ
data_clock_of w i n =
    if nat_lt n 4 && moves_data w i
    then option_and_then (λ r. nth_where (from_clock r (line_at DRDY w)) n (length w)) (response_clock_of w i)
    else None

-- the end of live request i: its fourth data clock where its data move, and its response clock otherwise
unfoldable pub end_of : Trace → ℕ → Option ℕ
end_of w i = if moves_data w i then data_clock_of w i 3 else live_response_of w i

-- the request before live request i has ended below c, or i is the first
unfoldable pub is_clear_before : Trace → ℕ → ℕ → Bool
is_clear_before w zero c = true
is_clear_before w (suc i) c = is_before (end_of w i) c

-- one clock after the snoop end of live request i
unfoldable pub clock_after_snoop : Trace → ℕ → Option ℕ
clock_after_snoop w i = option_map (λ s. s + 1) (snoop_end_of w i)

-- the clock above which the target of live request i may be ready: one after its snoop end, or, if that is later,
-- the end of the request before it
unfoldable pub ready_after : Trace → ℕ → Option ℕ
ready_after w zero = clock_after_snoop w 0
ready_after w (suc i) = greater_of (clock_after_snoop w (suc i)) (end_of w i)

-- two clocks after the snoop end of live request i
unfoldable pub two_after_snoop : Trace → ℕ → Option ℕ
two_after_snoop w i = option_map (λ s. s + 2) (snoop_end_of w i)

-- the clock from which live request i is answered, with its waits: two after its snoop end, or, if that is later, one
-- after the end of the request before it
unfoldable pub answer_from : Trace → ℕ → Option ℕ
answer_from w zero = two_after_snoop w 0
answer_from w (suc i) = greater_of (two_after_snoop w (suc i)) (option_map (λ t. t + 1) (end_of w i))

-- the ready clock of live request i: the first TRDY# clock above that
unfoldable pub ready_clock_of : Trace → ℕ → Option ℕ
ready_clock_of w i =
    option_and_then (λ b. first_where (from_clock (b + 1) (line_at TRDY w)) (length w)) (ready_after w i)
