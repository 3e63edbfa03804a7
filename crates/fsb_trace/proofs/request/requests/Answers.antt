use Rattle.std.proofs.Common.{◌≡◌, length, ap, ◌∙◌, arith}
use Rattle.fsb_trace.proofs.RequestSteps.{seen_before, seen_before-end}
use Rattle.fsb_trace.proofs.request.requests.Goals as goal

pub returns : goal.returns
returns c =
    let end : c.loop-q.q ≡ length c.args.w.now = omega arith in
    c.loop-q.invariant ∙ ap (seen_before c.args.w.now) end ∙ seen_before-end c.args.w.now
