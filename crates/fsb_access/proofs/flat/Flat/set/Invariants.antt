use Rattle.std.proofs.Common.{◌≡◌, ◌≤◌, ◌-◌, ◌*◌, length, take}
use Rattle.fsb_access.specs.ByteMemory.{put_bytes, set_memory}
use Rattle.fsb_access.specs.FlatView.{memory_of_chunks}
use Rattle.fsb_access.proofs.flat.Flat.set.Given as goal

-- the chunk in hand, put where it belongs, is the memory of the settings so far
abbrev pub invariant-loop-count : goal.invariant-loop-count
invariant-loop-count l = record {
  within : l.count ≤ length l.sets;
  eight : length l.chunk ≡ 8;
  puts : put_bytes (memory_of_chunks l.fn.self.chunks) (8 * l.number) l.chunk
      ≡ set_memory (memory_of_chunks l.fn.self.chunks) (take l.count l.sets);
}

abbrev pub decreases-loop-count : goal.decreases-loop-count
decreases-loop-count l = length l.sets - l.count
