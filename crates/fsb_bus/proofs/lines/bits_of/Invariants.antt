use Rattle.std.proofs.Common.{◌≡◌, ◌<◌, ◌^◌, ◌-◌, ◌≤◌, length, drop}
use Rattle.fsb_bench_view.specs.BusSample.{bits_of}
use Rattle.fsb_bus.proofs.lines.bits_of.Given as goal

-- the number has the bits from the place on
abbrev pub invariant-loop-place : goal.invariant-loop-place
invariant-loop-place l = record {
  within : l.place ≤ length l.bits;
  value : l.number ≡ bits_of (drop l.place l.bits);
  bound : l.number < 2 ^ (length l.bits - l.place);
}

abbrev pub decreases-loop-place : goal.decreases-loop-place
decreases-loop-place l = l.place
