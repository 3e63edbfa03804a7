use Rattle.std.proofs.Common.{◌≡◌, ◌+◌, ◌++◌, length, map}
use Rattle.std.specs.List.{range_with_len}
use Rattle.fsb_wave.specs.WaveText.{mark_at}
use Rattle.fsb_wave.specs.Wave.{kept_at}
use Rattle.fsb_wave.proofs.wave.Wave.drawing.Given as goal

-- the drawn name, and then a character for each place so far
abbrev pub invariant-loop-place : goal.invariant-loop-place
invariant-loop-place l = record {
  drawn : l.line.items ≡ l.initial.line.items ++ map (mark_at (kept_at l.self) l.control)
      (range_with_len l.self.range.from l.place);
  room : length l.line.items ≡ 6 + l.place;
}
