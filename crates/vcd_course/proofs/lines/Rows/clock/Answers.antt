use Rattle.vcd_course.proofs.RowFacts.{clock_at}
use Rattle.vcd_course.proofs.lines.Rows.clock.Goals as goal

pub returns : goal.returns
returns c = clock_at c.args.self.now.rows c.args.self.now.long
