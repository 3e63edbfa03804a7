use Rattle.std.proofs.Common.{◌≡◌, ◌≤◌, ◌-◌, ◌++◌, length, replicate}
use Rattle.fsb_wave.proofs.text.drawn_name.Given as goal

-- the name, and the spaces so far
abbrev pub invariant-loop-line : goal.invariant-loop-line
invariant-loop-line l = record {
  filled : l.line.items ≡ l.name ++ replicate (length l.line.items - length l.name) 32;
  least : length l.name ≤ length l.line.items;
  most : length l.line.items ≤ 6;
}

abbrev pub decreases-loop-line : goal.decreases-loop-line
decreases-loop-line l = 6 - length l.line.items
