use Rattle.std.proofs.Common.{sym, ap, subst, ◌∙◌, true, false, Some}
use Rattle.fsb_owner_feed.specs.Table.{SaysAsking}
use Rattle.fsb_why_queue.proofs.Head.{head-snoop, head-unended}
use Rattle.fsb_why_queue.proofs.queue.Queue.asking_snoop.Goals as goal

pub returns-then-ends_snoop : goal.returns-then-ends_snoop
returns-then-ends_snoop c = λ h g.
    let a = subst (SaysAsking h) c.in-Some.is (c.asking.ensures h (g.stands).table g.orderly) in
    ap (λ n. Some n) g.clock
    ∙ head-snoop h c.args.sample.now (g.orderly).spaced true
    (sym (c.ends_snoop.ensures h (g.stands).table a g.clock) ∙ c.if-ends_snoop.true)

pub returns-else-ends_snoop : goal.returns-else-ends_snoop
returns-else-ends_snoop c = λ h g.
    let a = subst (SaysAsking h) c.in-Some.is (c.asking.ensures h (g.stands).table g.orderly) in
    head-snoop h c.args.sample.now (g.orderly).spaced false
    (sym (c.ends_snoop.ensures h (g.stands).table a g.clock) ∙ c.if-ends_snoop.false)

pub returns-in-None : goal.returns-in-None
returns-in-None c = λ h g.
    let a = subst (SaysAsking h) c.in-None.is (c.asking.ensures h (g.stands).table g.orderly) in
    head-snoop h c.args.sample.now (g.orderly).spaced false (head-unended h c.args.sample.now (g.orderly).spaced a)
