use Rattle.std.proofs.Common.{◌≡◌, ◌<◌, ◌+◌, ◌^◌, length, drop}
use Rattle.fsb_io.specs.NumberText.{hexadecimal}
use Rattle.fsb_io.proofs.HexDigits.{hex_before}
use Rattle.fsb_io.proofs.number.write_hex.Given as goal

abbrev pub invariant-loop-left : goal.invariant-loop-left
invariant-loop-left l = record {
  within : l.start < 16;
  sixteen : length l.digits ≡ 16;
  fits : l.left < 16 ^ (l.start + 1);
  written : hex_before (49 + l.start) l.left (drop (l.start + 1) l.digits) ≡ hexadecimal l.n;
}

abbrev pub decreases-loop-left : goal.decreases-loop-left
decreases-loop-left l = l.left
