-- The lines that are left go on to what the whole text says.
use Rattle.std.proofs.Common.{◌≡◌, ◌+◌, ◌≤◌, length}
use Rattle.fsb_script.specs.TextWords.{text_lines}
use Rattle.fsb_script.specs.Drafts.{plan_from, said_plan}
use Rattle.fsb_script.specs.View.{progress}
use Rattle.fsb_script.proofs.read.read_bench.Given as goal

abbrev pub invariant-loop-rest : goal.invariant-loop-rest
invariant-loop-rest l = record {
  ahead : plan_from l.number (progress l.draft) (text_lines l.rest) ≡ said_plan l.text;
  few : l.number + length l.rest ≤ length l.text + 1;
}

abbrev pub decreases-loop-rest : goal.decreases-loop-rest
decreases-loop-rest l = length l.rest
