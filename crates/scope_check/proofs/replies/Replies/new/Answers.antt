use Rattle.std.proofs.Common.{refl}
use Rattle.scope_check.proofs.Replying.{none-marked, size-none}
use Rattle.scope_check.proofs.replies.Replies.new.Goals as goal

pub returns : goal.returns
returns c = record { last = refl; asked = λ id low. none-marked id 256; size = size-none 256; answers = refl }
