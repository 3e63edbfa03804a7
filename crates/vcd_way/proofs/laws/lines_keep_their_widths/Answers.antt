use Rattle.vcd_way.proofs.Widths.{widths-kept}
use Rattle.vcd_way.proofs.laws.lines_keep_their_widths.Goals as goal

pub returns : goal.returns
returns g c = record { widths = widths-kept }
