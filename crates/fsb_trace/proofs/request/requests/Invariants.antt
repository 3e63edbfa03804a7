use Rattle.std.proofs.Common.{◌≡◌}
use Rattle.fsb_trace.proofs.RequestSteps.{seen_before}
use Rattle.fsb_trace.proofs.request.requests.Given as goal

abbrev pub invariant-loop-q : goal.invariant-loop-q
invariant-loop-q l = l.seen.items ≡ seen_before l.w l.q
