use Rattle.std.proofs.Common.{slice_get, ap, ◌∙◌}
use Rattle.fsb_wave.proofs.Kept.{kept_lines}
use Rattle.fsb_wave.proofs.wave.Wave.line.Goals as goal

pub returns : goal.returns
returns c = λ from to h s. c.line_of.ensures ∙ ap (λ xs. slice_get xs c.args.i) (kept_lines c.args.self.now from to h s)
