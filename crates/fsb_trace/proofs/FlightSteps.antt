-- How many requests are in flight.
use Rattle.std.proofs.Common.{ℕ, ◌≡◌, length}
use Rattle.fsb_count.specs.Clocks.{count_where}
use Rattle.fsb_count.proofs.Interface.{length-all_where}
use Rattle.fsb_trace.specs.At.{Trace}
use Rattle.fsb_trace.specs.Flight.{is_in_flight, in_flight}

pub length-in_flight : (w : Trace) (c : ℕ) → length (in_flight w c) ≡ count_where (is_in_flight w c) c
unfolding in_flight
length-in_flight w c = length-all_where (is_in_flight w c) c

pub ruleset flight_steps = (length-in_flight)
