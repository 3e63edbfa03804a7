use Rattle.std.proofs.Common.{◌∙◌}
use Rattle.scope_pick.specs.Wires.{unfit_lines}
use Rattle.scope_pick.proofs.wires.unfit_lines.Goals as goal

pub returns : goal.returns
unfolding unfit_lines
returns c = rw (c.in_ok-words.ensures ∙ c.deref.ensures.value ∙ c.in_ok-bits.ensures, c.in_ok-header.ensures) at c.unfit_among.ensures
