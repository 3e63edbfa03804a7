use Rattle.std.proofs.Common.{◌∙◌}
use Rattle.scope_pick.specs.Wires.{named_lines}
use Rattle.scope_pick.proofs.wires.named_lines.Goals as goal

pub returns : goal.returns
unfolding named_lines
returns c = rw (c.in_ok-words.ensures ∙ c.deref.ensures.value ∙ c.in_ok-bits.ensures, c.in_ok-header.ensures) at c.named_among.ensures
