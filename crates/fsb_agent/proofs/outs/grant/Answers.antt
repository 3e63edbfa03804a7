use Rattle.std.proofs.Common.{◌<◌, length, set, get_or, ap, ◌∙◌, arith}
use Rattle.std.proofs.lemmas.List.{get_or_default}
use Rattle.std.proofs.lemmas.List.Edits.{map_over_more}
use Rattle.fsb_agent_view.specs.OwnRequests.{no_request, with_grant}
use Rattle.fsb_agent_view.specs.declared.want.OwnRequest.{OwnRequest}
use Rattle.fsb_agent.proofs.outs.grant.Goals as goal

pub loop-out-preserved : goal.loop-out-preserved
loop-out-preserved c =
    let items = c.loop-out.out-items in
    let k = c.loop-out.out-index in
    let x : OwnRequest = get_or items k no_request in
    let within : k < length items = omega (arith, c.loop-out-test.true, c.loop-out.auto.out-items) in
    ap (λ w. set items k w) c.with_grant.ensures
    ∙ map_over_more (with_grant c.args.number c.args.kept) c.as_mut_slice-out-items.result.now items k x
    c.loop-out-test.true c.loop-out.invariant (get_or_default items k _ x within)
