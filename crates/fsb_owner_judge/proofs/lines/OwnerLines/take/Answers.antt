use Rattle.std.proofs.Common.{◌≡◌, length, arith}
use Rattle.fsb_owner_judge.proofs.Standing.{if_ok, on_ok}
use Rattle.fsb_owner_judge.proofs.lines.OwnerLines.take.Goals as goal

pub returns-then-clock-eq0-clause-rule : goal.returns-then-clock-eq0-clause-rule
returns-then-clock-eq0-clause-rule c =
    if_ok c.begin.result
    (λ r p first h x v s e o w. p first h x v c.args.waits.now s (let z : length h ≡ 0 = omega (arith, e, c.if-clock-eq0.true) in z) o w)
    c.begin.ensures.rule

pub returns-then-clock-eq0-clause-stands : goal.returns-then-clock-eq0-clause-stands
returns-then-clock-eq0-clause-stands c =
    on_ok c.begin.result
    (λ p first h x v s e w. p first h x v c.args.waits.now s (let z : length h ≡ 0 = omega (arith, e, c.if-clock-eq0.true) in z) w)
    c.begin.ensures.stands
