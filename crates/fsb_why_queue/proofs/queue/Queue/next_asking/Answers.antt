use Rattle.std.proofs.Common.{sym, ap, subst, ◌∙◌, [], ◌∷◌, ◌++◌}
use Rattle.fsb_trace.specs.Requests.{live_clock_of}
use Rattle.fsb_heads.specs.Heads.{snooped_count}
use Rattle.fsb_why_queue.specs.Next.{SaysAsked}
use Rattle.fsb_why_queue.proofs.Head.{none_next, same_head}
use Rattle.fsb_why_queue.proofs.queue.Queue.next_asking.Goals as goal

pub returns-in-Some : goal.returns-in-Some
returns-in-Some c = λ h g none.
    c.next_asked.ensures h g none
    (subst (SaysAsked (h ++ c.args.sample.now ∷ []) (snooped_count h)) c.in-Some.is (c.asked.ensures h g))

pub returns-in-None : goal.returns-in-None
returns-in-None c = λ h g none.
    let v : _ = h ++ c.args.sample.now ∷ [] in
    none_next h c.args.sample.now c.args.clock g.clock
    (ap (live_clock_of v) (sym (same_head h g.orderly none))
    ∙ subst (SaysAsked v (snooped_count h)) c.in-None.is (c.asked.ensures h g))
