-- The lines so far are lines that the clock samples.
use Rattle.scope_words.specs.Names.{SampledLines}
use Rattle.scope_words.proofs.wires.late_lines.Given as goal

abbrev pub invariant-loop-word : goal.invariant-loop-word
invariant-loop-word l = SampledLines l.lines.items
