use Rattle.std.proofs.Common.{◌≡◌, ◌-◌, Some, None, cond, arith}
use Rattle.std.proofs.lemmas.Grind.{common_steps}
use Rattle.fsb_signal.specs.declared.lines.TheConstants.Lines.{AERR}
use Rattle.fsb_signal.specs.Samples.{has_line}
use Rattle.fsb_rules.proofs.Feeds.{brings_now}
use Rattle.fsb_rules.proofs.OpenHappens.{happens_with}
use Rattle.fsb_rules.proofs.checker.Checker.happened.Goals as goal
use Rattle.fsb_rules.proofs.checker.Checker.happened.Goals.{then-has, else-has}

cancelled : (c : goal.After-result-1)
    → c.if-has.result ≡ cond (has_line c.args.sample.now AERR) (Some (c.args.clock - 3)) None
cancelled c =
    elim c.if-has.branch [
      | then-has w ↦ grind (arith, common_steps)
      | else-has w ↦ grind (arith, common_steps)
    ]

pub returns : goal.returns
returns c = λ h comes unbroken.
    let g = brings_now comes unbroken in happens_with g (cancelled c) (c.ended.ensures h g.in_time)
