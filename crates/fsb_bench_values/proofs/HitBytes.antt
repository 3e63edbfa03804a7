-- The bytes of a line after the hits of a bench's clock, and before its end.
use Rattle.fsb_bench_values.proofs.Words
use Words.{ReplayState, replay, line_bytes, step_fetched, BenchView, next_clock_of, hit_entries, state_now}
use Rattle.std.specs.Prelude.{ℕ, List}

-- the one byte memory and the values loaded last, after the log and the entries of the hits are served
abbrev pub state_hit : BenchView → ReplayState
state_hit v = replay (state_now v.run) (hit_entries (next_clock_of v) (step_fetched v).agents)

-- the bytes of the line there
abbrev pub bytes_hit : BenchView → ℕ → List ℕ
bytes_hit v line = line_bytes (state_hit v).memory line
