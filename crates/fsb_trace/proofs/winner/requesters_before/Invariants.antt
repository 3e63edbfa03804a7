use Rattle.std.proofs.Common.{◌≡◌}
use Rattle.fsb_trace.specs.Winner.{requesters_before}
use Rattle.fsb_trace.proofs.winner.requesters_before.Given as goal

abbrev pub invariant-loop-d : goal.invariant-loop-d
invariant-loop-d l = l.requesters ≡ requesters_before l.w l.d
