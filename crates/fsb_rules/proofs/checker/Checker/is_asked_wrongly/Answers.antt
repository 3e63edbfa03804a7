use Rattle.std.proofs.Common.{arith, ◌<◌, sym, subst}
use Rattle.std.proofs.lemmas.Grind.{common_steps}
use Rattle.fsb_laws.proofs.Interface.{one_more}
use Rattle.fsb_rules.proofs.RequestLines.{request_line-some}
use Rattle.fsb_rules.proofs.StartRules.{asked}
use Rattle.fsb_rules.proofs.checker.Checker.is_asked_wrongly.Goals as goal

pub one_back-requires : goal.one_back-requires
one_back-requires c = subst (λ line. 0 < line.0) (sym c.requires) (request_line-some c.args.who)

pub returns-then-is_agent : goal.returns-then-is_agent
returns-then-is_agent c = λ h f.
    let e = asked f (one_more h c.args.sample.now) c.args.who in grind (arith, common_steps)

pub returns-then-one_back : goal.returns-then-one_back
returns-then-one_back c = λ h f.
    let e = asked f (one_more h c.args.sample.now) c.args.who in
    let b = c.one_back.ensures h f.recent in
    grind (arith, common_steps)

pub returns-else-one_back : goal.returns-else-one_back
returns-else-one_back c = λ h f.
    let e = asked f (one_more h c.args.sample.now) c.args.who in
    let b = c.one_back.ensures h f.recent in
    grind (arith, common_steps)
