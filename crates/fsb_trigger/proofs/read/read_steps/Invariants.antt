-- The parts that are left go on from the steps so far.
use Rattle.std.proofs.Common.{◌≡◌, length, map}
use denote.Text.{Utf8}
use denote.Shadow.{shadow}
use Rattle.fsb_trigger.specs.Grammar.{parts, step_read, steps_read}
use Rattle.fsb_trigger.specs.TriggerSteps.{view_of}
use Rattle.fsb_trigger.proofs.Behind.{list_behind}
use Rattle.fsb_trigger.proofs.read.read_steps.Given as goal

abbrev pub invariant-loop-first : goal.invariant-loop-first
invariant-loop-first l =
    (list_behind step_read (map view_of l.steps.items) (parts 47 l.rest) ≡ steps_read l.fn.word) × shadow (Utf8 l.rest)

abbrev pub decreases-loop-first : goal.decreases-loop-first
decreases-loop-first l = length l.rest
