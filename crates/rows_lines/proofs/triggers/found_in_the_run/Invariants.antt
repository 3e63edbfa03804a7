use Rattle.std.proofs.Common.{◌≡◌, List, length}
use Rattle.fsb_signal.specs.declared.sample.Sample.{Sample}
use Rattle.fsb_trigger.specs.TriggerSteps.{StepView}
use Rattle.fsb_trigger.specs.Hunt.{Stands}
use Rattle.rows_lines.proofs.triggers.found_in_the_run.Given as goal

-- the hunt stands for as many samples as clocks went by
abbrev pub invariant-loop-clock : goal.invariant-loop-clock
invariant-loop-clock l = (steps : List StepView) × (h : List Sample) × Stands l.hunt steps h × (length h ≡ l.clock)
