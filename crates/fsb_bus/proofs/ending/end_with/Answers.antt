use Rattle.std.proofs.Common.{ap, arith}
use Rattle.fsb_bus.specs.LogRoom.{accesses_left}
use Rattle.fsb_bus.proofs.LogRooms.{left-arrived, left-upgraded}
use Rattle.fsb_bus.proofs.ending.end_with.Goals as goal

pub returns-in-Granted-clause-left : goal.returns-in-Granted-clause-left
returns-in-Granted-clause-left c =
    omega (
      arith,
      c.arrive.ensures.spare,
      left-arrived c.args.agent.now c.args.clock c.args.first c.args.moved.now,
      ap accesses_left c.arrive.ensures.agent,
    )

pub returns-in-Upgraded-clause-left : goal.returns-in-Upgraded-clause-left
returns-in-Upgraded-clause-left c =
    omega (
      arith,
      c.upgraded.ensures.spare,
      left-upgraded c.args.agent.now c.args.clock c.args.first,
      ap accesses_left c.upgraded.ensures.agent,
    )
