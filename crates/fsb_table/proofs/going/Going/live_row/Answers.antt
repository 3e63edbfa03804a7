use Rattle.std.proofs.Common.{◌≡◌, sym, ◌∙◌}
use Rattle.fsb_trace.specs.Requests.{live_request_of}
use Rattle.fsb_table.proofs.Requests.{request-live, row-made}
use Rattle.fsb_table.proofs.going.Going.live_row.Goals as goal

pub returns-clause-row : goal.returns-clause-row
returns-clause-row c i stands live request =
    let w = c.args.w.now in
    let clock = c.args.seen.clock in
    let snoop = c.snoop_end-snoop.ensures.value i stands live in
    let response = c.response-response.ensures.value i stands in
    let asked : c.args.seen.request ≡ live_request_of w i = request ∙ sym (request-live w i clock live) in
    let outcome = c.told_outcome-outcome.ensures i clock live snoop asked response in
    let end = c.end_clock.ensures.value i clock live outcome response in
    row-made w i c.args.seen _ _ _ _ (c.as_clock.ensures ∙ snoop) (c.as_clock-2.ensures ∙ response)
    (c.as_clock-3.ensures ∙ end) outcome
