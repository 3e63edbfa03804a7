use Rattle.std.proofs.Common.{◌-◌, ◌≡◌, length, ap, ◌∙◌, arith}
use Rattle.fsb_owners.specs.Possible.{possible}
use Rattle.fsb_owner_judge.proofs.Judging.{begun-zero, follow-on, late-zero, rules-now, spoiled-on, stand-next}
use Rattle.fsb_owner_judge.proofs.lines.OwnerLines.begin.Goals as goal

pub returns-clause-rule : goal.returns-clause-rule
returns-clause-rule c = λ first h x v waits s z none w.
    let shown = c.args.shown.now in
    let on = c.spoil_failed.new.self in
    let zero_before : length h - 1 ≡ length h = omega (arith, z) in
    let f = follow-on c.args.self.now on first h x v shown waits s w c.spoil_failed.ensures.kept in
    let k = spoiled-on c.args.self.now on first h x v shown waits s w c.in_ok-spoil_failed.ensures.spoiled in
    c.rule_now.ensures first v (length h) (λ line. f line ∙ ap (possible first v line) zero_before) k w.more.size w.ended
    ∙ rules-now first v (length h) _ _ _ w.more.size (begun-zero first v (length h) z)
    (c.nothing.ensures ∙ late-zero first v (length h) z) (w.given_again none)

pub returns-clause-stands : goal.returns-clause-stands
returns-clause-stands c = λ first h x v waits s z w.
    let shown = c.args.shown.now in
    let on = c.spoil_failed.new.self in
    let zero_before : length h - 1 ≡ length h = omega (arith, z) in
    let f = follow-on c.args.self.now on first h x v shown waits s w c.spoil_failed.ensures.kept in
    let k = spoiled-on c.args.self.now on first h x v shown waits s w c.in_ok-spoil_failed.ensures.spoiled in
    stand-next on first v (length h) s.settled (λ line. f line ∙ ap (possible first v line) zero_before) k w.more.size
