use Rattle.fsb_core.specs.BareBenches.{bare_view}
use Rattle.fsb_core.proofs.RunsOn.{accepted-now}
use Rattle.fsb_core.proofs.bench.Bench.breaks_no_rule.Goals as goal

pub returns : goal.returns
returns g c = accepted-now (bare_view c.args.self.now.bare) c.args.self.now.stands
