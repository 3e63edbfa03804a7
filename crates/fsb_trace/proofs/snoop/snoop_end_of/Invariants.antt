use Rattle.std.proofs.Common.{◌≡◌, ◌<◌, length, IfSome}
use Rattle.fsb_trace.specs.Snoop.{snoop_end_of}
use Rattle.fsb_trace.proofs.snoop.snoop_end_of.Given as goal

abbrev pub invariant-loop-j : goal.invariant-loop-j
invariant-loop-j l = record {
  value : l.end ≡ snoop_end_of l.w l.j;
  below : IfSome l.end (λ s. s < length l.w);
}
