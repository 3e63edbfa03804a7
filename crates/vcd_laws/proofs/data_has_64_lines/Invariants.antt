use Rattle.std.proofs.Common.{◌<◌, ◌^◌, ℕ, get_or}
use Rattle.fsb_signal.specs.declared.sample.Sample.{Sample}
use Rattle.vcd_laws.proofs.data_has_64_lines.Given as goal

abbrev pub invariant-loop-sample : goal.invariant-loop-sample
invariant-loop-sample l = (k : ℕ) (d : Sample) → k < l.sample-index → (get_or l.samples k d).dbus.bits < 2 ^ 64
