use Rattle.std.proofs.Common.{sym, ◌∙◌}
use Rattle.fsb_why.proofs.Shown.{line_here}
use Rattle.fsb_why.proofs.look.Look.has.Goals as goal

pub returns : goal.returns
returns c = λ m v s. c.has.ensures ∙ sym (line_here c.args.line v c.args.self.now.clock c.args.self.now.sample s.here)
