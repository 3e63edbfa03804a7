use Rattle.std.proofs.Common.{arith}
use Rattle.std.proofs.lemmas.Grind.{common_steps}
use Rattle.fsb_rules.proofs.QueueRules.{moving_now}
use Rattle.fsb_rules.proofs.in_flight.InFlight.is_moving.Goals as goal

pub returns-then-responds : goal.returns-then-responds
returns-then-responds c = λ h n t w. grind (arith, common_steps, moving_now t w)

pub returns-else-responds : goal.returns-else-responds
returns-else-responds c = λ h n t w.
    let e = c.chunks.ensures h t.here.stands.heads in grind (arith, common_steps, moving_now t w)
