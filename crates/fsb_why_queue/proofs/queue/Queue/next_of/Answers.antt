use Rattle.std.proofs.Common.{sym, ◌∙◌}
use Rattle.fsb_why_queue.proofs.Head.{clock_stays, next_is, request_stays, row_snoop, snoop_stays, snooped_lines, snooped_parts, unsnooped}
use Rattle.fsb_trace.specs.Snoop.{snoop_end_of}
use Rattle.fsb_laws.specs.Progress.{response_count}
use Rattle.fsb_why_queue.proofs.queue.Queue.next_of.Goals as goal

pub returns-in-Some : goal.returns-in-Some
returns-in-Some c = λ h g r.
    let x : _ = c.args.sample.now in
    let i : _ = response_count h in
    let is = sym c.in-Some.is ∙ row_snoop h i c.args.row.now r in
    let end = snooped_parts h c.in-Some.snoop (snoop_end_of h i) is in
    let lines = snooped_lines h x i c.in-Some.snoop is in
    next_is h x c.args.clock _ g.clock (g.stands).responses
    (clock_stays h x i c.in-Some.snoop.clock c.args.row.now.seen.clock (g.orderly).spaced r.clock end)
    (sym (snoop_stays h x i c.in-Some.snoop.clock end))
    (c.ended_with.ensures h g)
    (request_stays h x i c.in-Some.snoop.clock c.args.row.now r end)
    lines.0 lines.1 (c.ready_with.ensures h g)

pub returns-in-None : goal.returns-in-None
returns-in-None c = λ h g r.
    c.next_asking.ensures h g
    (unsnooped h (snoop_end_of h (response_count h)) (sym c.in-None.is ∙ row_snoop h (response_count h) c.args.row.now r))
