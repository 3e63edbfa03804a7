use Rattle.std.proofs.Common.{subst, [], ◌∷◌, ◌++◌}
use Rattle.fsb_why_queue.specs.Data.{SaysTransfer}
use Rattle.fsb_why_queue.proofs.Busy.{end-is}
use Rattle.fsb_why_queue.proofs.queue.Queue.data_transfer.Goals as goal

pub returns-in-Some : goal.returns-in-Some
returns-in-Some c = λ m h g.
    let x : _ = c.args.sample.now in
    c.busy_wrongly.ensures m (h ++ x ∷ []) c.args.clock
    (end-is h x c.args.clock c.args.self.now.answered c.answered_after-last.result g.clock (g.stands).answered
    c.answered_after-last.ensures)
    (subst (SaysTransfer (h ++ x ∷ []) c.args.clock) c.in-Some.is (c.coming.ensures h g))

pub returns-in-None : goal.returns-in-None
returns-in-None c = λ m h g.
    let x : _ = c.args.sample.now in
    c.unexpected.ensures m (h ++ x ∷ []) c.args.clock
    (end-is h x c.args.clock c.args.self.now.answered c.answered_after-last.result g.clock (g.stands).answered
    c.answered_after-last.ensures)
    (subst (SaysTransfer (h ++ x ∷ []) c.args.clock) c.in-None.is (c.coming.ensures h g))
