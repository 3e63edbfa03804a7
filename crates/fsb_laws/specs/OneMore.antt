-- A trace with one sample more than another.
use Rattle.std.specs.Prelude.{◌≡◌, ℕ, ◌+◌, Bool, ◌&&◌, not, nat_eq, length, Some, slice_get}
use Rattle.fsb_signal.specs.declared.lines.TheConstants.Lines.{AERR, HIT, HITM}
use Rattle.fsb_signal.specs.declared.sample.Sample.{Sample}
use Rattle.fsb_signal.specs.Samples.{has_line, response_of}
use Rattle.fsb_trace.specs.At.{Trace}
use Rattle.fsb_trace.specs.Agree.{AgreeTo}

-- v is h and then the sample x
pub record OneMore (h : Trace) (x : Sample) (v : Trace) : Type 0 where
  pub agree : AgreeTo (length h) h v
  pub size : length v ≡ length h + 1
  pub last : slice_get v (length h) ≡ Some x

-- the sample, at clock n, cancels the request that begins at q
unfoldable pub cancels : Sample → ℕ → ℕ → Bool
cancels x n q = has_line x AERR && nat_eq (q + 3) n

-- HIT# and HITM# are asserted together in the sample
unfoldable pub stalls : Sample → Bool
stalls x = has_line x HIT && has_line x HITM

-- RS# is not idle in the sample
unfoldable pub responds : Sample → Bool
responds x = not (nat_eq (response_of x) 0)
