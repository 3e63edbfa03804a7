use Rattle.fsb_run_laws.proofs.BroughtLines.{brought-told}
use Rattle.fsb_run_laws.proofs.lines.ends_bring_lines.Goals as goal

pub returns : goal.returns
returns c = brought-told
