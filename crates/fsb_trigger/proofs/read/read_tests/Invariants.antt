-- The parts that are left go on from the tests so far.
use Rattle.std.proofs.Common.{◌≡◌, length}
use denote.Text.{Utf8}
use denote.Shadow.{shadow}
use Rattle.fsb_trigger.specs.Grammar.{parts, test_of, tests_of}
use Rattle.fsb_trigger.proofs.Behind.{list_behind}
use Rattle.fsb_trigger.proofs.read.read_tests.Given as goal

abbrev pub invariant-loop-first : goal.invariant-loop-first
invariant-loop-first l = (list_behind test_of l.tests.items (parts 44 l.rest) ≡ tests_of l.fn.text)
    × shadow (Utf8 l.rest)

abbrev pub decreases-loop-first : goal.decreases-loop-first
decreases-loop-first l = length l.rest
