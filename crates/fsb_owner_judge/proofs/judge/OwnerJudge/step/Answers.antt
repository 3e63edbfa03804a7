use Rattle.std.proofs.Common.{◌+◌, sym, ap, ◌∙◌, arith}
use Rattle.fsb_owner_judge.proofs.Standing.{kept, lacked, nothing-found, stays_of, stepped, told-next, unfound}
use Rattle.fsb_owner_judge.proofs.judge.OwnerJudge.step.Goals as goal

pub returns-then-is_some-clause-found : goal.returns-then-is_some-clause-found
returns-then-is_some-clause-found c = λ first h x v s w.
    stays_of first h x v c.args.self.now.found w.more (sym c.if-is_some.ensures) (s.found c.if-self.false)

pub returns-then-is_some-clause-stands : goal.returns-then-is_some-clause-stands
returns-then-is_some-clause-stands c = λ first h x v s w.
    kept c.args.self.now first h x v w.more c.if-self.false (sym c.if-is_some.ensures) s

pub returns-clause-found : goal.returns-clause-found
returns-clause-found c = λ first h x v s w.
    let none = nothing-found c.args.self.now.found (sym c.if-is_some.ensures) in
    let clock = s.clock c.if-self.false none in
    c.found_at-self.ensures
    ∙ told-next c.args.self.now first h x v _ c.in-Ok.rule w.more c.if-self.false none s clock
    (c.in-Ok.ensures.rule first h x v (s.lines c.if-self.false none) clock (unfound c.args.self.now first h c.if-self.false none s) w)

pub returns-clause-stands : goal.returns-clause-stands
returns-clause-stands c = λ first h x v s w.
    let none = nothing-found c.args.self.now.found (sym c.if-is_some.ensures) in
    let clock = s.clock c.if-self.false none in
    stepped _ first h x v c.args.self.now.clock w.more clock
    (c.found_at-self.ensures
    ∙ told-next c.args.self.now first h x v _ c.in-Ok.rule w.more c.if-self.false none s clock
    (c.in-Ok.ensures.rule first h x v (s.lines c.if-self.false none) clock (unfound c.args.self.now first h c.if-self.false none s) w))
    (c.in-Ok.ensures.stands first h x v (s.lines c.if-self.false none) clock w)
    (ap (λ d. d + 1) c.from.ensures)

pub returns-then-self-clause-stands : goal.returns-then-self-clause-stands
returns-then-self-clause-stands c = λ first h x v s w.
    lacked c.args.self.now first v c.if-self.true (let l = s.few in let n = w.more.size in omega (arith, l, n))
