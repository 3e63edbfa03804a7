-- Two traces that are the same so far.
use Rattle.std.specs.Prelude.{◌≡◌, ◌<◌, ◌≤◌, ℕ, length, slice_get}
use Rattle.fsb_trace.specs.At.{Trace}

-- both traces have n clocks at least, and their first n samples are the same
pub record AgreeTo (n : ℕ) (w v : Trace) : Type 0 where
  pub left : n ≤ length w
  pub right : n ≤ length v
  pub same : (c : ℕ) → c < n → slice_get w c ≡ slice_get v c
