use Rattle.std.proofs.Common.{◌≡◌, ◌≤◌, ◌+◌, ◌-◌, length, take, drop}
use Rattle.std.specs.List.{prefix_len}
use Rattle.fsb_memory.specs.Controller.{line_in, is_in_line}
use Rattle.fsb_memory.proofs.SetLines.{BytesSoFar, NamesSoFar}
use Rattle.fsb_memory.proofs.controller.Controller.set.Given as goal

abbrev pub invariant-loop-count : goal.invariant-loop-count
invariant-loop-count l = record {
  within : l.count ≤ length l.sets;
  in_line : l.count + prefix_len (is_in_line l.line) (drop l.count l.sets) ≡ prefix_len (is_in_line l.line) l.sets;
  all : length l.bytes ≡ 32;
  bytes : BytesSoFar (line_in l.fn.self) l.line l.bytes (take l.count l.sets);
  named : NamesSoFar l.line l.count (take l.count l.sets);
}

abbrev pub decreases-loop-count : goal.decreases-loop-count
decreases-loop-count l = length l.sets - l.count
