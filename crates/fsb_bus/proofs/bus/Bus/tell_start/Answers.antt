use Rattle.std.proofs.Common.{sym}
use Rattle.fsb_bus.proofs.BusSteps.{told-reply}
use Rattle.fsb_bus.proofs.bus.Bus.tell_start.Goals as goal

pub returns-in-Priority-clause-agents : goal.returns-in-Priority-clause-agents
returns-in-Priority-clause-agents c =
    sym (told-reply c.args.clock c.args.starting.now.who c.args.self.now.agents.items c.in-Priority.is)
