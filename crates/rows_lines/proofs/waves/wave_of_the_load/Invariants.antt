use Rattle.std.proofs.Common.{◌≡◌, List, length}
use Rattle.fsb_signal.specs.declared.sample.Sample.{Sample}
use Rattle.fsb_wave.specs.Wave.{Stands}
use Rattle.rows_lines.proofs.waves.wave_of_the_load.Given as goal

-- the wave stands for as many samples as clocks went by
abbrev pub invariant-loop-clock : goal.invariant-loop-clock
invariant-loop-clock l = (h : List Sample) × Stands l.wave l.from l.to h × (length h ≡ l.clock)
