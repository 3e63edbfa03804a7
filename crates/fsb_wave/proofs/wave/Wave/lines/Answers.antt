use Rattle.std.proofs.Common.{length, ap, ◌∙◌}
use Rattle.fsb_wave.proofs.Kept.{kept_lines}
use Rattle.fsb_wave.proofs.wave.Wave.lines.Goals as goal

pub returns : goal.returns
returns c = λ from to h s. c.length.ensures.value ∙ ap (λ xs. length xs) (kept_lines c.args.self.now from to h s)
