use Rattle.std.proofs.Common.{arith}
use Rattle.std.proofs.lemmas.Grind.{common_steps}
use Rattle.fsb_rules.proofs.Queue.{queue-in_flight}
use Rattle.fsb_rules.proofs.in_flight.InFlight.len.Goals as goal

pub returns : goal.returns
returns c = λ h st o f.
    let e = c.chunks.ensures h st.heads in grind (arith, common_steps, queue-in_flight st o f)
