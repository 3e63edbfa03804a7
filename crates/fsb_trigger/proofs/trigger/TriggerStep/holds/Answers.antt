use Rattle.std.proofs.Common.{sym, ◌∙◌}
use Rattle.fsb_trigger.specs.TriggerSteps.{step_holds}
use Rattle.fsb_trigger.proofs.Asks.{lacks}
use Rattle.fsb_trigger.proofs.trigger.TriggerStep.holds.Goals as goal

pub returns-then-not-has : goal.returns-then-not-has
unfolding step_holds
returns-then-not-has c =
    let step = c.args.self.now in
    lacks c.args.sample.now step.tests.items step.asked.0 step.asked_are (sym c.has.ensures ∙ c.if-not-has.true)
