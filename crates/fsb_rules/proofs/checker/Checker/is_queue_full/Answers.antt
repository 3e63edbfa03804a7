use Rattle.std.proofs.Common.{sym, ◌∙◌, arith}
use Rattle.std.proofs.lemmas.Grind.{common_steps}
use Rattle.fsb_laws.proofs.Interface.{one_more}
use Rattle.fsb_rules.proofs.StartRules.{full, too_soon_not}
use Rattle.fsb_rules.proofs.checker.Checker.is_queue_full.Goals as goal

pub returns-then-has : goal.returns-then-has
returns-then-has c = λ h f soon.
    let m = one_more h c.args.sample.now in
    let l = c.len.ensures h f.queue f.orderly (too_soon_not m soon (sym c.has.ensures ∙ c.if-has.true)).0 in
    grind (arith, common_steps, full f m)

pub returns-else-has : goal.returns-else-has
returns-else-has c = λ h f soon. grind (arith, common_steps, full f (one_more h c.args.sample.now))
