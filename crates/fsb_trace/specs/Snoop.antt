-- Snoop clocks and snoop ends of the live requests.
use Rattle.std.specs.Prelude.{ℕ, zero, suc, ◌+◌, ◌-◌, ◌%◌, Bool, ◌&&◌, not, nat_le, nat_lt, nat_eq, Option, length}
use Rattle.std.specs.Option.{option_map, option_and_then}
use Rattle.fsb_count.specs.Options.{is_some_and, is_before, greater_of}
use Rattle.fsb_count.specs.Clocks.{first_where, any_where}
use Rattle.fsb_signal.specs.declared.lines.Lines.{Lines}
use Rattle.fsb_signal.specs.Samples.{line_at}
use Rattle.fsb_trace.specs.At.{Trace, stalls_at}
use Rattle.fsb_trace.specs.Requests.{live_clock_of, live_count}

-- c is the start or an even number of clocks after it
unfoldable pub is_every_second_from : ℕ → ℕ → Bool
is_every_second_from start c = nat_le start c && nat_eq ((c - start) % 2) 0

-- a snoop that starts there ends at c: every second clock is looked at, and at c HIT# and HITM# are not together
unfoldable pub ends_snoop : Trace → ℕ → ℕ → Bool
ends_snoop w start c = is_every_second_from start c && not (stalls_at w c)

-- the end of a snoop that starts there: the first such clock
unfoldable pub snoop_end_from : Trace → ℕ → Option ℕ
snoop_end_from w start = first_where (ends_snoop w start) (length w)

-- the end of a snoop, if it starts
unfoldable pub snoop_end_if : Trace → Option ℕ → Option ℕ
snoop_end_if w start = option_and_then (snoop_end_from w) start

-- four clocks after the first clock of live request i: no snoop of it starts before
unfoldable pub start_after_clock : Trace → ℕ → Option ℕ
start_after_clock w i = option_map (λ q. q + 4) (live_clock_of w i)

-- the later of that and three clocks after a snoop end
unfoldable pub start_after_end : Trace → ℕ → Option ℕ → Option ℕ
start_after_end w i before = greater_of (start_after_clock w i) (option_map (λ s. s + 3) before)

-- the snoop end of live request i. The snoop of the first starts four clocks after its first clock, and that of each
-- other one no sooner, and no sooner than three clocks after the snoop end before it
unfoldable pub snoop_end_of : Trace → ℕ → Option ℕ
snoop_end_of w zero = snoop_end_if w (start_after_clock w 0)
snoop_end_of w (suc i) = snoop_end_if w (start_after_end w (suc i) (snoop_end_of w i))

-- the first snoop clock of live request i
unfoldable pub snoop_start_of : Trace → ℕ → Option ℕ
snoop_start_of w zero = start_after_clock w 0
snoop_start_of w (suc i) = start_after_end w (suc i) (snoop_end_of w i)

-- c is a snoop clock of live request i: one of every second clock from its first snoop clock up to its snoop end
unfoldable pub is_snoop_clock_of : Trace → ℕ → ℕ → Bool
is_snoop_clock_of w c i =
    nat_lt c (length w) && is_some_and (snoop_start_of w i) (λ start. is_every_second_from start c)
    && not (is_before (snoop_end_of w i) c)

-- c is a snoop clock of some live request
unfoldable pub is_snoop_clock : Trace → ℕ → Bool
is_snoop_clock w c = any_where (is_snoop_clock_of w c) (live_count w)

-- the line is asserted at the snoop end of live request i
unfoldable pub line_at_snoop_end : Lines → Trace → ℕ → Bool
line_at_snoop_end line w i = is_some_and (snoop_end_of w i) (line_at line w)
