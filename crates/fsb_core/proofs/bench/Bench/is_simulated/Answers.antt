use Rattle.fsb_core.specs.BareBenches.{bare_view}
use Rattle.fsb_core.proofs.RunsOn.{simulated-now}
use Rattle.fsb_core.proofs.bench.Bench.is_simulated.Goals as goal

pub returns : goal.returns
returns g c =
    simulated-now (bare_view c.args.self.now.bare) c.args.self.now.stands c.args.self.now.bytes c.args.self.now.carried
