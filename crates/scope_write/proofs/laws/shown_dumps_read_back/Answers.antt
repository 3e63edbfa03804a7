use Rattle.scope_write.proofs.Whole.{reads-back}
use Rattle.scope_write.proofs.laws.shown_dumps_read_back.Goals as goal

pub returns : goal.returns
returns c there w h = reads-back there w h
