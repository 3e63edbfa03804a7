use Rattle.std.proofs.Common.{sym, ◌∙◌}
use Rattle.fsb_wave.specs.Wave.{kept_at, shown}
use Rattle.fsb_wave.proofs.Texts.{line-drawn, line-below}
use Rattle.fsb_wave.proofs.wave.Wave.line_of.Goals as goal

pub returns-then-i-lt21 : goal.returns-then-i-lt21
returns-then-i-lt21 c =
    sym (line-drawn (kept_at c.args.self.now) c.args.self.now.range.from (shown c.args.self.now)
    c.args.self.now.count c.args.i c.if-i-lt21.true ∙ c.drawing.ensures)

pub returns-else-i-lt21 : goal.returns-else-i-lt21
returns-else-i-lt21 c =
    c.line_below.ensures
    ∙ sym (line-below (kept_at c.args.self.now) c.args.self.now.range.from (shown c.args.self.now)
    c.args.self.now.count c.args.i c.if-i-lt21.false)
