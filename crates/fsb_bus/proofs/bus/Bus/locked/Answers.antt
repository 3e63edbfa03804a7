use Rattle.std.proofs.Common.{sym, ◌∙◌}
use Rattle.fsb_bus.specs.Buses.{bus_view}
use Rattle.fsb_bus.specs.Releases.{releases_of}
use Rattle.fsb_bus.proofs.Unlocked.{unlocked}
use Rattle.fsb_bus.proofs.bus.Bus.locked.Goals as goal

pub returns-then-not-is_lock_driven : goal.returns-then-not-is_lock_driven
returns-then-not-is_lock_driven c =
    unlocked c.args.scripts.now (bus_view c.args.self.now) c.args.starting.now (releases_of c.args.may.now)
    (sym c.is_lock_driven.ensures ∙ c.if-not-is_lock_driven.true)
