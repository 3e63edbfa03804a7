use Rattle.scope_copy.proofs.ReadBack.{copied-reads}
use Rattle.scope_copy.proofs.laws.copied_dumps_read_back.Goals as goal

pub returns : goal.returns
returns c = copied-reads c.shown_dumps_read_back.ensures
