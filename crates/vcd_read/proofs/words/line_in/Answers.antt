use Rattle.std.proofs.Common.{◌∙◌, ap}
use Rattle.fsb_signal.specs.Table.{signal_number}
use Rattle.vcd_read.proofs.words.line_in.Goals as goal

pub returns-in_err-number : goal.returns-in_err-number
unfolding signal_number
returns-in_err-number c = c.from_residual.ensures ∙ c.in_err-number.ensures ∙ ap signal_number c.name_in-name.ensures

pub returns : goal.returns
unfolding signal_number
returns c = c.in_ok-number.ensures ∙ ap signal_number c.name_in-name.ensures
