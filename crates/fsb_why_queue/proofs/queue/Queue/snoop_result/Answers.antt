use Rattle.std.proofs.Common.{subst, [], ◌∷◌, ◌++◌}
use Rattle.fsb_why_queue.specs.Snoops.{SaysSnooping}
use Rattle.fsb_why_queue.proofs.Asking.{lines-new, result-unended}
use Rattle.fsb_why_queue.proofs.queue.Queue.snoop_result.Goals as goal

pub returns-in-Some : goal.returns-in-Some
returns-in-Some c = λ m h g.
    let v : _ = h ++ c.args.sample.now ∷ [] in
    c.unfit.ensures m v c.args.clock (subst (SaysSnooping v c.args.clock) c.in-Some.is (c.snooping.ensures h g))
    (lines-new h c.args.sample.now c.args.clock c.snoop_lines.result g.clock c.snoop_lines.ensures)

pub returns-in-None : goal.returns-in-None
returns-in-None c = λ m h g.
    let v : _ = h ++ c.args.sample.now ∷ [] in
    let n = subst (SaysSnooping v c.args.clock) c.in-None.is (c.snooping.ensures h g) in
    result-unended m v c.args.clock n.ends
