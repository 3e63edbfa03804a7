-- Which agents began requests, one clock on.
use Rattle.std.proofs.Common.{ℕ, ◌+◌, ◌≡◌, true, false, None, refl, add-one}
use Rattle.fsb_signal.specs.declared.lines.TheConstants.Lines.{ADS}
use Rattle.fsb_signal.specs.Samples.{line_at}
use Rattle.fsb_trace.specs.At.{Trace}
use Rattle.fsb_trace.specs.Winner.{no_requesters, then_begun, winner_after, requesters_before}

pub requesters_before-start : (w : Trace) → requesters_before w 0 ≡ (None, None)
unfolding requesters_before no_requesters
requesters_before-start w = refl

pub requesters_before-begun : (w : Trace) (c : ℕ) → line_at ADS w c ≡ true
    → requesters_before w (c + 1) ≡ then_begun (requesters_before w c) (winner_after w c (requesters_before w c))
unfolding requesters_before
requesters_before-begun w c t = rw (add-one, t, requesters_before) refl

pub requesters_before-kept : (w : Trace) (c : ℕ) → line_at ADS w c ≡ false
    → requesters_before w (c + 1) ≡ requesters_before w c
unfolding requesters_before
requesters_before-kept w c f = rw (add-one, f, requesters_before) refl

pub ruleset requester_steps = (requesters_before-start, requesters_before-begun, requesters_before-kept)
