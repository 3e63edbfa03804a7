use Rattle.fsb_bridge_run.proofs.ShownWords.{shows-begun}
use Rattle.fsb_bridge_run.proofs.laws.words_show_what_began.Goals as goal

pub returns : goal.returns
returns c = shows-begun
