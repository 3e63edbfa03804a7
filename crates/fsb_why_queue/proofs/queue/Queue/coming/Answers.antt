use Rattle.std.proofs.Common.{sym, subst, [], ◌∷◌, ◌++◌}
use Rattle.fsb_why_queue.specs.Data.{IsTransfer, SaysMover}
use Rattle.fsb_why_queue.proofs.OnTheWay.{coming-kept, coming_now}
use Rattle.fsb_why_queue.proofs.queue.Queue.coming.Goals as goal

pub returns-in-Some : goal.returns-in-Some
returns-in-Some c = λ h g.
    let x : _ = c.args.sample.now in
    subst (λ n. IsTransfer (record { request = c.in-Some.request; response = n; chunks = 0 }) (h ++ x ∷ []) n) (sym g.clock)
    (coming_now h x g.orderly c.in-Some.request
    (subst (SaysMover h x (h ++ x ∷ [])) c.in-Some.is (c.answered_moving.ensures h g)))

pub returns-in-None : goal.returns-in-None
returns-in-None c = λ h g.
    let x : _ = c.args.sample.now in
    coming-kept h x c.args.clock c.moving.result g.orderly g.clock (c.moving.ensures h g.stands g.orderly)
    (subst (SaysMover h x (h ++ x ∷ [])) c.in-None.is (c.answered_moving.ensures h g))
