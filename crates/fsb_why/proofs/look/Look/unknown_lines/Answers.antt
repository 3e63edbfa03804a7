use Rattle.std.proofs.Common.{sym, ◌∙◌}
use Rattle.fsb_why.proofs.Alone.{known-not, known-is}
use Rattle.fsb_why.proofs.look.Look.unknown_lines.Goals as goal

pub returns-then-has_known_lines : goal.returns-then-has_known_lines
returns-then-has_known_lines c = λ m v s.
    known-not m v c.args.self.now.clock c.args.self.now.sample s.here (sym c.has_known_lines.ensures ∙ c.if-has_known_lines.true)

pub returns-else-has_known_lines : goal.returns-else-has_known_lines
returns-else-has_known_lines c = λ m v s.
    known-is m v c.args.self.now.clock c.args.self.now.sample s.here (sym c.has_known_lines.ensures ∙ c.if-has_known_lines.false)
