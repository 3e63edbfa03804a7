use Rattle.std.proofs.Common.{◌∙◌}
use Rattle.scope_copy.proofs.Wired.{line-wired}
use Rattle.scope_copy.proofs.there.is_there.Goals as goal

pub returns : goal.returns
returns c = c.is_wired.ensures ∙ line-wired c.args.wires.now c.args.line
