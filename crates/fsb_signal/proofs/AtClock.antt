-- Which line is asserted at a clock, as a list of samples grows or is cut.
use Rattle.std.proofs.Common.{◌≡◌, ℕ, ◌<◌, ◌≤◌, false, List, [], ◌∷◌, ◌++◌, length, slice_get, refl, arith, zero, suc}
use Rattle.std.proofs.lemmas.Option.{slice_get_past}
use Rattle.fsb_signal.specs.declared.lines.Lines.{Lines}
use Rattle.fsb_signal.specs.declared.sample.Sample.{Sample}
use Rattle.fsb_signal.specs.Samples.{line_at}

-- elements that are appended change nothing before them
pub slice_get-before : {X : Type 0} (w v : List X) (c : ℕ) → c < length w → slice_get (w ++ v) c ≡ slice_get w c
slice_get-before [] v c h = absurd (omega (arith, h))
slice_get-before (y ∷ w) v zero h = refl
slice_get-before (y ∷ w) v (suc c) h = slice_get-before w v c (omega (arith, h))

-- past the end nothing is asserted
pub line_at-past : (line : Lines) (w : List Sample) (c : ℕ) → length w ≤ c → line_at line w c ≡ false
unfolding line_at
line_at-past line w c past = rw (slice_get_past w c past) refl
