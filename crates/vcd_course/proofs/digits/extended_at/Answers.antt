use Rattle.std.proofs.Common.{sym, ◌∙◌, arith}
use Rattle.vcd_course.proofs.DigitFacts.{extended_pad, extended_digit}
use Rattle.vcd_course.proofs.digits.extended_at.Goals as goal

pub returns-then-at-missing : goal.returns-then-at-missing
returns-then-at-missing c =
    c.pad_before.ensures ∙ sym (extended_pad c.args.width c.args.digits.now c.args.at (omega arith))

pub returns-else-at-missing : goal.returns-else-at-missing
returns-else-at-missing c = sym (extended_digit c.args.width c.args.digits.now c.args.at (omega arith))
