use Rattle.std.proofs.Common.{◌≡◌, ◌<◌, ◌≤◌, ◌++◌, ◌∷◌, [], ℕ, List, length, slice_get}
use Rattle.fsb_signal.specs.declared.sample.Sample.{Sample}
use Rattle.fsb_trigger.specs.Hunt.{KeepsAt, KeepsFirst, steps_in}
use Rattle.fsb_trigger.proofs.hunt.take_below.Given as goal

-- the steps from step i on have their latest match with the new sample, and the others what they had
abbrev pub invariant-loop-i : goal.invariant-loop-i
invariant-loop-i l = record {
  within : l.i ≤ l.end;
  below : (k : ℕ) → k < l.i → slice_get l.latest k ≡ slice_get l.fn.latest k;
  rest : (k : ℕ) → l.end ≤ k → slice_get l.latest k ≡ slice_get l.fn.latest k;
  done : (h : List Sample) → l.clock ≡ length h → KeepsFirst l.end l.fn.latest (steps_in l.trigger) h → (k : ℕ)
      → l.i ≤ k → k < l.end
      → KeepsAt l.latest (steps_in l.trigger) (h ++ l.sample ∷ []) k;
}

abbrev pub decreases-loop-i : goal.decreases-loop-i
decreases-loop-i l = l.i
