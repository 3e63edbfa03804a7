-- It is told of the bytes so far.
use Rattle.std.proofs.Common.{◌≡◌, take}
use Rattle.std.specs.List.{list_all}
use Rattle.vcd_way.specs.Events.{is_known_digit}
use Rattle.vcd_scan.proofs.digits.are_known.Given as goal

abbrev pub invariant-loop-byte : goal.invariant-loop-byte
invariant-loop-byte l = l.all ≡ list_all is_known_digit (take l.byte-index l.bytes)
