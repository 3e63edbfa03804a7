-- The steps of a trigger, and what holds in a sample.
use Rattle.std.specs.Prelude.{ℕ, Bool, true, not, ◌==◌, ◌&&◌, nat_le, Option, List}
use Rattle.std.specs.List.{list_all}
use Rattle.std.specs.Option.{option_map_or}
use Rattle.fsb_signal.specs.declared.sample.Sample.{Sample}
use Rattle.fsb_signal.specs.declared.sample.Word.{Word}
use Rattle.fsb_signal.specs.Samples.{has_line, has_unknown, is_known_word}
use Rattle.fsb_trigger.specs.declared.trigger.TriggerStep.{TriggerStep}
use Rattle.fsb_trigger.specs.declared.test.Test.{Test}
use Rattle.fsb_trigger.specs.declared.test.Test.TheVariants.{Asserted, NotAsserted, Request, Address, Data}

-- a step: within how many clocks of the one before it, if that is said, and its tests
pub record StepView : Type 0 where
  pub bound : Option ℕ
  pub tests : List Test

-- the word has no unknown bit and is this number
abbrev pub is_word : Word → ℕ → Bool
is_word word bits = is_known_word word && (word.bits == bits)

-- the test holds in the sample: the line is known and asserted, or known and not asserted, or the
-- word has no unknown bit and is this number
unfoldable pub test_holds : Sample → Test → Bool
test_holds s (Asserted line) = not (has_unknown s line) && has_line s line
test_holds s (NotAsserted line) = not (has_unknown s line) && not (has_line s line)
test_holds s (Request bits) = is_word s.req bits
test_holds s (Address bits) = is_word s.addr bits
test_holds s (Data bits) = is_word s.dbus bits

-- every test of the step holds in the sample
unfoldable pub step_holds : Sample → StepView → Bool
step_holds s step = list_all (test_holds s) step.tests

-- what a clause sees of a step
abbrev pub view_of : TriggerStep → StepView
view_of step = record { bound = step.bound; tests = step.tests.items }

-- d clocks after the step before it the bound is kept
unfoldable pub keeps_bound : StepView → ℕ → Bool
keeps_bound step d = option_map_or (λ n. nat_le d n) step.bound true
