use Rattle.std.proofs.Common.{◌∙◌}
use Rattle.fsb_why.proofs.Shown.{back_here}
use Rattle.fsb_why.proofs.look.Look.three_back.Goals as goal

pub returns : goal.returns
returns c = λ m v s. c.has_line.ensures ∙ back_here c.args.line v c.args.self.now.clock 3 c.args.self.now.three s.three
