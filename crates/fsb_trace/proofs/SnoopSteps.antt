-- Snoop ends, one request on.
use Rattle.std.proofs.Common.{ℕ, ◌+◌, ◌-◌, ◌<◌, ◌≡◌, refl, add-one, arith}
use Rattle.fsb_trace.specs.At.{Trace}
use Rattle.fsb_trace.specs.Snoop.{snoop_end_if, start_after_clock, start_after_end, snoop_end_of, snoop_start_of}

pub snoop_end_of-first : (w : Trace) → snoop_end_of w 0 ≡ snoop_end_if w (start_after_clock w 0)
unfolding snoop_end_of
snoop_end_of-first w = refl

pub snoop_end_of-next : (w : Trace) (i : ℕ)
    → snoop_end_of w (i + 1) ≡ snoop_end_if w (start_after_end w (i + 1) (snoop_end_of w i))
unfolding snoop_end_of
snoop_end_of-next w i = rw add-one refl

pub snoop_start_of-first : (w : Trace) → snoop_start_of w 0 ≡ start_after_clock w 0
unfolding snoop_start_of
snoop_start_of-first w = refl

snoop_start_of-next : (w : Trace) (i : ℕ) → snoop_start_of w (i + 1) ≡ start_after_end w (i + 1) (snoop_end_of w i)
unfolding snoop_start_of
snoop_start_of-next w i = rw add-one refl

pub snoop_start_of-after : (w : Trace) (i : ℕ) → 0 < i
    → snoop_start_of w i ≡ start_after_end w i (snoop_end_of w (i - 1))
snoop_start_of-after w i l =
    let e : i - 1 + 1 ≡ i = omega arith in rw e at (snoop_start_of-next w (i - 1))

pub ruleset snoop_steps = (snoop_end_of-first, snoop_end_of-next, snoop_start_of-first, snoop_start_of-after)
