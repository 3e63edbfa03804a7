use Rattle.std.proofs.Common.{sym, ap, ◌∙◌, ◌≡◌, Some, ◌+◌}
use Rattle.std.proofs.Common.{max, rules}
use Rattle.fsb_why_queue.proofs.Asking.{start-none, start-some}
use Rattle.fsb_why_queue.proofs.queue.Queue.start_of.Goals as goal

pub returns-in-Some : goal.returns-in-Some
returns-in-Some c = λ h x n g clock.
    let start : c.max.result ≡ max (c.args.begun + 4) (c.in-Some.end + 3) = search rules in
    start-some h x (g.orderly).spaced c.args.self.now.last c.args.begun c.in-Some.end (g.stands).last c.in-Some.is clock
    ∙ ap (λ k. Some k) (sym start)

pub returns-in-None : goal.returns-in-None
returns-in-None c = λ h x n g clock.
    start-none h x (g.orderly).spaced c.args.self.now.last c.args.begun (g.stands).last c.in-None.is clock
    ∙ ap (λ q. Some (q + 4)) (sym c.from-earliest.ensures)
