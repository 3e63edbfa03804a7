-- Where a list of steps matches in a trace.
use Rattle.std.specs.Prelude.{ℕ, zero, suc, ◌-◌, Bool, false, ◌&&◌, if◌then◌else◌, Option, Some, None, List, [], ◌∷◌, ◌++◌, length, option_map, slice_get}
use Rattle.std.specs.Option.{option_map_or}
use Rattle.fsb_count.specs.Clocks.{any_where, first_where, last_where}
use Rattle.fsb_signal.specs.declared.sample.Sample.{Sample}
use Rattle.fsb_trigger.specs.TriggerSteps.{StepView, step_holds, keeps_bound}

-- step i of the steps holds at clock c; there is no step past the last, and no clock past the end
unfoldable pub step_holds_at : List StepView → List Sample → ℕ → ℕ → Bool
step_holds_at steps w i c =
    option_map_or (λ s. option_map_or (step_holds s) (slice_get steps i) false)
    (slice_get w c) false

-- step i at clock c keeps its bound from clock d on, where the step before it is
unfoldable pub near : List StepView → ℕ → ℕ → ℕ → Bool
near steps i d c = option_map_or (λ step. keeps_bound step (c - d)) (slice_get steps i) false

-- there are clocks, each above the one before, at which the steps up to step i hold one after
-- another, the last of them at c, each step that has a bound within it of the step before
unfoldable pub matches : List StepView → List Sample → ℕ → ℕ → Bool
matches steps w zero c = step_holds_at steps w 0 c
matches steps w (suc i) c =
    step_holds_at steps w (suc i) c
    && any_where (λ d. matches steps w i d && near steps (suc i) d c) c

-- the clocks of the steps up to step i that match at c, found from the back: the one before is the
-- greatest clock below at which the steps before match
unfoldable pub chain : List StepView → List Sample → ℕ → ℕ → List ℕ
chain steps w zero c = c ∷ []
chain steps w (suc i) c =
    option_map_or (chain steps w i) (last_where (matches steps w i) c) [] ++ c ∷ []

-- the clocks of the least match of all the steps
unfoldable pub least_match : List StepView → List Sample → Option (List ℕ)
least_match steps w =
    let last = length steps - 1 in
    option_map (chain steps w last) (first_where (matches steps w last) (length w))

-- the clocks of the steps up to step i that match at the newest clock of the trace, if they do
unfoldable pub newest_match : List StepView → List Sample → ℕ → Option (List ℕ)
newest_match steps w i =
    if matches steps w i (length w - 1) then Some (chain steps w i (length w - 1)) else None

-- the clocks of the latest match of the steps up to step i
unfoldable pub latest : List StepView → List Sample → ℕ → Option (List ℕ)
latest steps w i = option_map (chain steps w i) (last_where (matches steps w i) (length w))
