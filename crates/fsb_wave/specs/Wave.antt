-- The samples that a wave was fed.
use Rattle.std.specs.Prelude.{◌≡◌, ◌<◌, ◌≤◌, ℕ, ◌+◌, ◌-◌, List, length, slice_get}
use Rattle.fsb_signal.specs.declared.sample.Sample.{Sample}
use Rattle.fsb_wave.specs.declared.wave.Wave.{Wave}
use Rattle.fsb_wave.specs.WaveText.{Clocks, first_kept, reached}

-- what is kept of a clock
unfoldable pub kept_at : Wave → Clocks
kept_at wave c = slice_get wave.kept (c - first_kept wave.range.from)

-- how many clocks of the range were fed
abbrev pub shown : Wave → ℕ
shown wave = reached wave.range.from wave.range.to wave.count

-- the wave was made for the clocks from `from` to `to` and fed these samples: it keeps those of the range, and the one
-- before them
pub record Stands (wave : Wave) (from to : ℕ) (h : List Sample) : Type 0 where
  pub begins : wave.range.from ≡ from
  pub ends : wave.range.to ≡ to
  pub counts : wave.count ≡ length h
  pub keeps : (c : ℕ) → from ≤ c + 1 → c ≤ to → c < length h
      → slice_get wave.kept (c - first_kept from) ≡ slice_get h c
