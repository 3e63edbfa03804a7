-- What the moment of a clock has of the request that begins there and of the one that is cancelled, the whole trace
-- says.
use Rattle.std.proofs.Common.{ℕ, ◌-◌, ◌<◌, ◌≡◌, true, false, ◌&&◌, nat_le, Some, None, if◌then◌else◌, length}
use Rattle.std.proofs.Common.{slice_get, arith}
use Rattle.std.specs.Option.{option_and_then}
use Rattle.fsb_signal.specs.declared.lines.TheConstants.Lines.{ADS, AERR}
use Rattle.fsb_signal.specs.Samples.{line_at}
use Rattle.fsb_trace.specs.At.{Trace}
use Rattle.fsb_trace.proofs.Interface.{line_at-agree}
use Rattle.fsb_timely.specs.Grants.{begun_at}
use Rattle.fsb_timely.specs.Moments.{begun_with, cancelled_at, claim_at, moment_at, owing_for}
use Rattle.fsb_timely.specs.Runs.{Run, past_of}
use Rattle.fsb_timely.proofs.Moments.{moment-at, run_to-agrees}
use Rattle.fsb_timely.proofs.Settled.{claim_at-agree}

pub begun-told : (r : Run) (t : ℕ) → t < length r.trace
    → begun_at (past_of r) t ≡ (if line_at ADS r.trace t then claim_at r.trace t else None)
unfolding begun_at past_of moment_at begun_with owing_for
begun-told r t l = grind (arith, run_to-agrees, line_at-agree, claim_at-agree, moment-at)

cancelled-same : (w v : Trace) (t : ℕ) → line_at AERR w t ≡ line_at AERR v t
    → line_at ADS w (t - 3) ≡ line_at ADS v (t - 3) → cancelled_at w t ≡ cancelled_at v t
unfolding cancelled_at
cancelled-same w v t error begins = λ i. elim (nat_le 3 t && error i && begins i) [ true ↦ Some (t - 3) | false ↦ None ]

pub cancelled-told : (r : Run) (t : ℕ) → t < length r.trace
    → option_and_then (λ moment. moment.cancelled) (slice_get (past_of r).moments t) ≡ cancelled_at r.trace t
unfolding past_of moment_at
cancelled-told r t l = grind (arith, run_to-agrees, moment-at, cancelled-same, line_at-agree)
