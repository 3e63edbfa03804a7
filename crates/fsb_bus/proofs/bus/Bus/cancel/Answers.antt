use Rattle.std.proofs.Common.{sym, ap, ◌∙◌}
use Rattle.fsb_bus.specs.Buses.{bus_view}
use Rattle.fsb_bus.proofs.BusSteps.{cancelled-reply}
use Rattle.fsb_bus.proofs.bus.Bus.cancel.Goals as goal

pub returns-in-Priority-clause-view : goal.returns-in-Priority-clause-view
returns-in-Priority-clause-view c =
    ap (λ bridge. record (bus_view c.args.self.now) { bridge = bridge }) c.cancelled.ensures
    ∙ sym (cancelled-reply (bus_view c.args.self.now) c.args.entry.now c.in-Priority.is)
