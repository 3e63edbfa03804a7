-- The winner, by the lines that decide.
use Rattle.std.proofs.Common.{ℕ, ◌-◌, ◌≡◌, true, false, Some, None, nat_lt, refl}
use Rattle.std.specs.Option.{option_map}
use Rattle.fsb_signal.specs.declared.lines.TheConstants.Lines.{LOCK, BPRI}
use Rattle.fsb_signal.specs.Samples.{line_at}
use Rattle.fsb_trace.specs.declared.who.Who.TheVariants.{Symmetric, Priority}
use Rattle.fsb_trace.specs.At.{Trace}
use Rattle.fsb_trace.specs.Winner.{Requesters, first_asking, last_if_asking, first_in_order, winner_by, winner_after}

-- with LOCK# the last requester keeps the bus, while it asks
pub winner_by-locked : (w : Trace) (d : ℕ) (turns : Requesters) → line_at LOCK w d ≡ true
    → winner_by w d turns ≡ last_if_asking w d turns.0
unfolding winner_by
winner_by-locked w d turns t = rw (t, winner_by) refl

-- without LOCK# the priority agent comes first
pub winner_by-priority : (w : Trace) (d : ℕ) (turns : Requesters) → line_at LOCK w d ≡ false
    → line_at BPRI w d ≡ true → winner_by w d turns ≡ Some Priority
unfolding winner_by
winner_by-priority w d turns f t = rw (f, t, winner_by) refl

-- the symmetric agents come last, in their order
pub winner_by-symmetric : (w : Trace) (d : ℕ) (turns : Requesters) → line_at LOCK w d ≡ false
    → line_at BPRI w d ≡ false → winner_by w d turns ≡ option_map Symmetric (first_asking w d (first_in_order turns.1))
unfolding winner_by
winner_by-symmetric w d turns f g = rw (f, g, winner_by) refl

-- there is no winner below clock 2
pub winner_after-low : (w : Trace) (c : ℕ) (turns : Requesters) → nat_lt c 2 ≡ true → winner_after w c turns ≡ None
unfolding winner_after
winner_after-low w c turns t = rw (t, winner_after) refl

-- from clock 2 on the lines two clocks before decide
pub winner_after-high : (w : Trace) (c : ℕ) (turns : Requesters) → nat_lt c 2 ≡ false
    → winner_after w c turns ≡ winner_by w (c - 2) turns
unfolding winner_after
winner_after-high w c turns f = rw (f, winner_after) refl
