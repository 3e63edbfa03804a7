use Rattle.std.proofs.Common.{sym, ap, subst, ◌∙◌, [], ◌∷◌, ◌++◌, length}
use Rattle.std.proofs.Common.{◌-◌}
use Rattle.fsb_owner_feed.specs.Begins.{SaysBegins}
use Rattle.fsb_heads.specs.Heads.{snooped_count}
use Rattle.fsb_why_queue.specs.Next.{SaysAsked}
use Rattle.fsb_why_queue.proofs.Head.{asked-begun, asked-now, head-begun, head-new}
use Rattle.fsb_why_queue.proofs.queue.Queue.asked_last.Goals as goal

pub returns-in-Some : goal.returns-in-Some
returns-in-Some c = λ h g none.
    let x : _ = c.args.sample.now in
    let b = subst (λ o. SaysBegins o h) c.in-Some.is (c.begun_last.ensures h (g.stands).table) in
    asked-begun h x (snooped_count h) (length h - 1) c.saturating_sub.result c.request.result c.in-Some.begun b.1
    (c.saturating_sub.ensures ∙ ap (λ n. n - 1) g.clock) c.request.ensures
    (head-begun h x (g.orderly).spaced none b.0)

pub returns-in-None : goal.returns-in-None
returns-in-None c = λ h g none.
    let x : _ = c.args.sample.now in
    let b = subst (λ o. SaysBegins o h) c.in-None.is (c.begun_last.ensures h (g.stands).table) in
    subst (SaysAsked (h ++ x ∷ []) (snooped_count h)) (sym c.asked_now.ensures)
    (asked-now h x (snooped_count h) c.args.clock g.clock (head-new h x (g.orderly).spaced none b))
