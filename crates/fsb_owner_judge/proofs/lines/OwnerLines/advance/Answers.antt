use Rattle.std.proofs.Common.{◌+◌, ◌-◌, ◌≡◌, length, sym, ap, ◌∙◌, arith}
use Rattle.fsb_owner_judge.specs.Lines.{ShowsClock}
use Rattle.fsb_owner_judge.specs.Sights.{begun_for}
use Rattle.fsb_owner_judge.specs.Verdicts.{begun_rule}
use Rattle.fsb_owner_judge.proofs.Judging.{close-on, follow-on, late-then, rules-now, spoiled-on, stand-next}
use Rattle.fsb_owner_judge.proofs.LineSights.{begun-at}
use Rattle.fsb_owner_judge.proofs.lines.OwnerLines.advance.Goals as goal

pub returns-clause-rule : goal.returns-clause-rule
returns-clause-rule c = λ first h x v s z none w.
    let shown = c.args.shown.now in
    let waits = c.args.waits.now in
    let on = c.spoil_failed.new.self in
    let last : length h - 1 + 1 ≡ length h = omega (arith, z) in
    let f = follow-on c.args.self.now on first h x v shown waits s w c.spoil_failed.ensures.kept in
    let k = spoiled-on c.args.self.now on first h x v shown waits s w c.in_ok-spoil_failed.ensures.spoiled in
    let clock : ShowsClock v (length h - 1) shown.begun shown.ended_before waits =
    record { begins = w.begun z; ends = w.ended_before z; waiting = w.waiting z } in
    let g = close-on on c.close.new.self first v (length h - 1) (length h) waits last s.settled f
    (c.in_ok-close.ensures.sets v (length h - 1) clock) (w.quiet z) in
    c.rule_now.ensures first v (length h) g (λ line. c.close.ensures.spoiled line ∙ k line) w.more.size w.ended
    ∙ rules-now first v (length h) _ _ _ w.more.size
    (c.begun_rule-begun.ensures first v (length h - 1) f k (w.begun z) ∙ ap (begun_rule first v) last)
    (c.answered-late.ensures first v (length h - 1) f k (w.ended_before z)
    (λ line. ap (begun_for line) (w.begun z) ∙ sym (begun-at v line (length h - 1)))
    ∙ late-then first v (length h) z) (w.given_again none)

pub returns-clause-stands : goal.returns-clause-stands
returns-clause-stands c = λ first h x v s z w.
    let shown = c.args.shown.now in
    let waits = c.args.waits.now in
    let on = c.spoil_failed.new.self in
    let last : length h - 1 + 1 ≡ length h = omega (arith, z) in
    let f = follow-on c.args.self.now on first h x v shown waits s w c.spoil_failed.ensures.kept in
    let k = spoiled-on c.args.self.now on first h x v shown waits s w c.in_ok-spoil_failed.ensures.spoiled in
    let clock : ShowsClock v (length h - 1) shown.begun shown.ended_before waits =
    record { begins = w.begun z; ends = w.ended_before z; waiting = w.waiting z } in
    let g = close-on on c.close.new.self first v (length h - 1) (length h) waits last s.settled f
    (c.in_ok-close.ensures.sets v (length h - 1) clock) (w.quiet z) in
    stand-next c.close.new.self first v (length h) s.settled g (λ line. c.close.ensures.spoiled line ∙ k line) w.more.size
