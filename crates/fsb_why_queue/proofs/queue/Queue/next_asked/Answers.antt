use Rattle.std.proofs.Common.{sym, ap, ◌∙◌, [], ◌∷◌, ◌++◌}
use Rattle.fsb_signal.specs.declared.lines.TheConstants.Lines.{DEFER, HITM}
use Rattle.fsb_trace.specs.Requests.{live_clock_of, live_request_of}
use Rattle.fsb_trace.specs.Snoop.{line_at_snoop_end, snoop_end_of}
use Rattle.fsb_why_queue.proofs.Head.{line_then, next_is, same_head}
use Rattle.fsb_why_queue.proofs.queue.Queue.next_asked.Goals as goal

pub returns : goal.returns
returns c = λ h g none a.
    let x : _ = c.args.sample.now in
    let v : _ = h ++ c.args.sample.now ∷ [] in
    let same = same_head h g.orderly none in
    let snoop = c.asking_snoop-snoop.ensures h g in
    next_is h x c.args.clock _ g.clock (g.stands).responses
    (ap (live_clock_of v) (sym same) ∙ a.0)
    (snoop ∙ ap (snoop_end_of v) same)
    (c.ended_with.ensures h g)
    (a.1 ∙ ap (live_request_of v) same)
    (c.has_then.ensures ∙ (line_then HITM h x c.asking_snoop-snoop.result (g.orderly).spaced snoop ∙ ap (line_at_snoop_end HITM v) same))
    (c.has_then-2.ensures ∙ (line_then DEFER h x c.asking_snoop-snoop.result (g.orderly).spaced snoop ∙ ap (line_at_snoop_end DEFER v) same))
    (c.ready_with.ensures h g)
