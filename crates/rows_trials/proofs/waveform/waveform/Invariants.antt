use Rattle.std.proofs.Common.{◌≤◌, ◌*◌, vec_len}
use Rattle.rows_trials.proofs.waveform.waveform.Given as goal

-- two samples a step at most
abbrev pub invariant-loop-n : goal.invariant-loop-n
invariant-loop-n l = record { size : vec_len l.w ≤ 2 * l.n; within : l.n ≤ 70 }
