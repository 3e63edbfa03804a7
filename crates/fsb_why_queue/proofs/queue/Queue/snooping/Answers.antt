use Rattle.std.proofs.Common.{subst, [], ◌∷◌, ◌++◌}
use Rattle.fsb_heads.specs.Heads.{snooped_count}
use Rattle.fsb_why_queue.specs.Next.{SaysAsked}
use Rattle.fsb_why_queue.proofs.Asking.{none_is, snooping_is}
use Rattle.fsb_why_queue.proofs.queue.Queue.snooping.Goals as goal

pub returns-in-Some : goal.returns-in-Some
returns-in-Some c = λ h g.
    let x : _ = c.args.sample.now in
    let v : _ = h ++ c.args.sample.now ∷ [] in
    let a = subst (SaysAsked v (snooped_count h)) c.in-Some.is (c.asked.ensures h g) in
    snooping_is h x (g.orderly).spaced c.args.clock _ c.asking_snoop.result g.clock (g.stands).snooped a.0
    (c.start_of.ensures h x c.args.clock g a.0) c.is_some.ensures (c.asking_snoop.ensures h g) a.1

pub returns-in-None : goal.returns-in-None
returns-in-None c = λ h g.
    let v : _ = h ++ c.args.sample.now ∷ [] in
    none_is h c.args.sample.now (g.orderly).spaced c.args.clock g.clock
    (subst (SaysAsked v (snooped_count h)) c.in-None.is (c.asked.ensures h g))
