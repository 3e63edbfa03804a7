-- The latest match of a step, as the sample of a clock is taken.
use Rattle.std.proofs.Common.{◌≡◌, ◌<◌, ◌≤◌, ◌+◌, ℕ, Some, None, List, [], ◌∷◌, ◌++◌, length, take, set, slice_get}
use Rattle.std.proofs.Common.{option_map, sym, ap, subst, ◌∙◌, inl, inr}
use Rattle.std.proofs.Math.Nat.{eq-or-lt_of_le}
use Rattle.fsb_signal.specs.declared.sample.Sample.{Sample}
use Rattle.fsb_trigger.specs.TriggerSteps.{StepView}
use Rattle.fsb_trigger.specs.Match.{newest_match}
use Rattle.fsb_trigger.specs.Hunt.{Chain, KeepsAt, kept}
use Rattle.fsb_trigger.proofs.Grows.{latest-found, latest-stays}
use Rattle.fsb_trigger.proofs.Newest.{slice_get-set_same}

-- the steps match at the new sample, and that is written
pub taken-found : (chains : List Chain) (steps : List StepView) (h : List Sample) (s : Sample) (i : ℕ)
    (clocks : List ℕ) → i < length chains → kept (i + 1) (Some clocks) ≡ newest_match steps (h ++ s ∷ []) i
    → KeepsAt (set chains i (Some clocks)) steps (h ++ s ∷ []) i
taken-found chains steps h s i clocks l is =
    ap (option_map (kept (i + 1))) (slice_get-set_same chains i (Some clocks) l)
    ∙ ap Some (sym (latest-found steps h s i (take (i + 1) clocks) (sym is)))

-- they do not, and what was kept stays
pub taken-stays : (chains : List Chain) (steps : List StepView) (h : List Sample) (s : Sample) (i : ℕ)
    → KeepsAt chains steps h i → None ≡ newest_match steps (h ++ s ∷ []) i → KeepsAt chains steps (h ++ s ∷ []) i
taken-stays chains steps h s i k none = k ∙ ap Some (sym (latest-stays steps h s i (sym none)))

-- what is kept of a step, where it is read alike
pub keeps-same : (chains before : List Chain) (steps : List StepView) (h : List Sample) (i : ℕ)
    → slice_get chains i ≡ slice_get before i → KeepsAt before steps h i → KeepsAt chains steps h i
keeps-same chains before steps h i same k = ap (option_map (kept (i + 1))) same ∙ k

-- what holds at a number, and at each behind it below n, holds from that number on
pub from-here : (P : ℕ → Type 0) (here n : ℕ) → P here → ((k : ℕ) → here < k → k < n → P k) → (k : ℕ) → here ≤ k
    → k < n → P k
from-here P here n now behind k from below =
    elim (eq-or-lt_of_le from) [
      | inl same ↦ subst P same now
      | inr past ↦ behind k past below
    ]
