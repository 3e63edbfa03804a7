-- The digits so far stand before those of the bytes that are left.
use Rattle.std.proofs.Common.{◌≡◌, ◌++◌, length, option_map}
use Rattle.vcd_scan.specs.Digits.{all_digits}
use Rattle.vcd_scan.proofs.digits.read_each.Given as goal

abbrev pub invariant-loop-byte : goal.invariant-loop-byte
invariant-loop-byte l =
    option_map (λ ds. l.to.items ++ ds) (all_digits l.is_wide l.rest) ≡ all_digits l.is_wide l.fn.bytes

abbrev pub decreases-loop-byte : goal.decreases-loop-byte
decreases-loop-byte l = length l.rest
