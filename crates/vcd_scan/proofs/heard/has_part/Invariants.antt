-- Before the bytes that are left the wanted ones begin nowhere.
use Rattle.std.proofs.Common.{◌≡◌, length}
use Rattle.vcd_scan.specs.Limits.{has_part}
use Rattle.vcd_scan.proofs.heard.has_part.Given as goal

abbrev pub invariant-loop-more : goal.invariant-loop-more
invariant-loop-more l = has_part l.rest l.fn.part ≡ has_part l.fn.word l.fn.part

abbrev pub decreases-loop-more : goal.decreases-loop-more
decreases-loop-more l = length l.rest
