use Rattle.fsb_core.specs.BareBenches.{bare_view}
use Rattle.fsb_core.proofs.RunsOn.{lines-now}
use Rattle.fsb_core.proofs.bench.Bench.keeps_its_lines.Goals as goal

pub returns : goal.returns
returns g c = lines-now (bare_view c.args.self.now.bare) c.args.self.now.stands c.args.self.now.bytes
