use Rattle.std.proofs.Common.{◌≡◌, ◌+◌, ◌&&◌, length, subst, arith}
use Rattle.fsb_trace.specs.Rules.{breaks}
use Rattle.fsb_why.specs.Look.{SaysLast}
use Rattle.fsb_why.specs.Explains.{Tells, is_line_rule}
use Rattle.fsb_why.proofs.why.Why.why.Goals as goal

pub returns-in-Some : goal.returns-in-Some
returns-in-Some c = λ m h n s e.
    let shows = subst (λ o. SaysLast o m h) c.in-Some.is s.last in
    let size : length h ≡ c.in-Some.look.clock + 1 = shows.size in
    let same : c.in-Some.look.clock ≡ n = omega (arith, size, e) in
    subst (λ i. Tells m h i c.args.rule (is_line_rule c.args.rule && breaks m h i c.args.rule) c.why.result) same
    (c.why.ensures m h shows)

pub returns-in-None : goal.returns-in-None
returns-in-None c = λ m h n s e.
    let none : length h ≡ 0 = subst (λ o. SaysLast o m h) c.in-None.is s.last in
    absurd (omega (arith, none, e))
