-- What is kept between one live request and the next.
use Rattle.std.proofs.Common.{ℕ, ◌+◌, ◌≡◌, Option, Some, None, length, refl, ap, arith, add-one}
use Rattle.std.specs.Option.{option_map}
use Rattle.fsb_count.specs.Clocks.{count_where, nth_where, from_clock}
use Rattle.fsb_trace.specs.At.{Trace, responds_at}
use Rattle.fsb_trace.specs.Snoop.{snoop_end_of}
use Rattle.fsb_trace.specs.Outcome.{response_clock_of}
use Rattle.fsb_table.specs.Going.{clear_of, Stands}
use Rattle.fsb_table.proofs.FromClock.{next-first, next-found, next-none}

-- at first nothing is gone through
pub stands-start : (w : Trace) → Stands record { clear = Some 0; unanswered = 0 } w 0
unfolding clear_of response_clock_of count_where
stands-start w = record { clear = refl; response = next-first (responds_at w) 0 0 (length w) (omega arith) refl }

-- the next snoop may start three clocks after the snoop end
pub next_clear : (w : Trace) (i : ℕ) (snoop : Option ℕ) → snoop ≡ snoop_end_of w i
    → option_map (λ s. s + 3) snoop ≡ clear_of w (i + 1)
unfolding clear_of
next_clear w i snoop e = rw add-one (ap (option_map (λ s. s + 3)) e)

-- the next response is looked for from the next clock on, and not at all where there is none
pub next_response : (w : Trace) (i r : ℕ) → response_clock_of w i ≡ Some r
    → response_clock_of w (i + 1) ≡ nth_where (from_clock (r + 1) (responds_at w)) 0 (length w)
unfolding response_clock_of
next_response w i r e = next-found (responds_at w) i (length w) r e

pub no_response : (w : Trace) (i : ℕ) → response_clock_of w i ≡ None
    → response_clock_of w (i + 1) ≡ nth_where (from_clock (length w) (responds_at w)) 0 (length w)
unfolding response_clock_of
no_response w i e = next-none (responds_at w) i (length w) e
