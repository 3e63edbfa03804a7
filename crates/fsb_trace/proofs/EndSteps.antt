-- What live request i has to wait for, by whether it is the first.
use Rattle.std.proofs.Common.{ℕ, ◌-◌, ◌+◌, ◌<◌, ◌≡◌, true, refl, arith, add-one}
use Rattle.fsb_count.specs.Options.{is_before, greater_of}
use Rattle.fsb_trace.specs.At.{Trace}
use Rattle.fsb_trace.specs.Response.{end_of, is_clear_before, clock_after_snoop, ready_after}

pub is_clear_before-first : (w : Trace) (c : ℕ) → is_clear_before w 0 c ≡ true
unfolding is_clear_before
is_clear_before-first w c = refl

is_clear_before-next : (w : Trace) (i c : ℕ) → is_clear_before w (i + 1) c ≡ is_before (end_of w i) c
unfolding is_clear_before
is_clear_before-next w i c = rw add-one refl

pub is_clear_before-after : (w : Trace) (i c : ℕ) → 0 < i → is_clear_before w i c ≡ is_before (end_of w (i - 1)) c
is_clear_before-after w i c l =
    let e : i - 1 + 1 ≡ i = omega arith in rw e at (is_clear_before-next w (i - 1) c)

pub ready_after-first : (w : Trace) → ready_after w 0 ≡ clock_after_snoop w 0
unfolding ready_after
ready_after-first w = refl

ready_after-next : (w : Trace) (i : ℕ) → ready_after w (i + 1) ≡ greater_of (clock_after_snoop w (i + 1)) (end_of w i)
unfolding ready_after
ready_after-next w i = rw add-one refl

pub ready_after-after : (w : Trace) (i : ℕ) → 0 < i
    → ready_after w i ≡ greater_of (clock_after_snoop w i) (end_of w (i - 1))
ready_after-after w i l =
    let e : i - 1 + 1 ≡ i = omega arith in rw e at (ready_after-next w (i - 1))

pub ruleset end_steps = (is_clear_before-first, is_clear_before-after, ready_after-first, ready_after-after)
