use Rattle.vcd_read.proofs.Widths.{no_digit, one_digit}
use Rattle.vcd_read.proofs.levels.clock_digit.Goals as goal

pub returns-in-empty : goal.returns-in-empty
returns-in-empty c = no_digit c.args.digits.now c.in-empty.len_below

pub returns-in-len1-up : goal.returns-in-len1-up
returns-in-len1-up c = one_digit c.args.digits.now c.requires c.in-len1-up.len_at_least
