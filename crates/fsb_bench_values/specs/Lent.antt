-- The caches of a bench, as they are lent.
use Rattle.std.specs.Prelude.{ℕ, List, [], slice_get}
use Rattle.std.specs.Option.{option_map_or}
use Rattle.fsb_cache.specs.Sets.{CacheSets, copies, states}
use Rattle.fsb_line.specs.declared.state.Mesi.{Mesi}
use Rattle.fsb_bench_view.specs.BusViews.{BenchView}

-- the lines of the cache of agent a; none where there is no such agent
abbrev pub lines_lent : BenchView → ℕ → CacheSets
lines_lent v a = option_map_or (λ w. w.lines) (slice_get v.bus.agents a) []

-- the state of a line in the cache of agent a
abbrev pub state_lent : BenchView → ℕ → ℕ → Mesi
state_lent v a line = states (lines_lent v a) line

-- the bytes of a line in the cache of agent a
abbrev pub bytes_lent : BenchView → ℕ → ℕ → List ℕ
bytes_lent v a line = copies (lines_lent v a) line
