use Rattle.std.proofs.Common.{sym}
use Rattle.fsb_recent.proofs.FirstClocks.{first_row_is}
use Rattle.fsb_recent.proofs.first.first_row.Goals as goal

pub returns : goal.returns
returns c = λ h is o. rw c.line_by.ensures (sym (first_row_is is o))
