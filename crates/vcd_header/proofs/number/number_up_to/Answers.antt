use Rattle.std.proofs.Common.{◌∙◌, sym, arith}
use Rattle.vcd_header.proofs.Numbers.{number-empty, number-other, number-past, number-read, number-above}
use Rattle.vcd_header.proofs.number.number_up_to.Goals as goal

pub returns-then-is_empty : goal.returns-then-is_empty
returns-then-is_empty c = number-empty c.args.limit c.args.word.now (sym c.is_empty.ensures ∙ c.if-is_empty.true)

pub returns-then-not-is_digit : goal.returns-then-not-is_digit
returns-then-not-is_digit c =
    number-other c.args.limit c.args.word.now c.loop-byte.byte-index (omega arith) (sym c.is_digit.ensures
    ∙ c.if-not-is_digit.true)

pub returns-in-None : goal.returns-in-None
returns-in-None c =
    number-past c.args.limit c.args.word.now c.loop-byte.byte-index c.loop-byte.number (omega arith)
    c.loop-byte.invariant.value (omega (arith, c.in-None.ensures.past))

pub returns-then-number-limit : goal.returns-then-number-limit
returns-then-number-limit c =
    number-read c.args.limit c.args.word.now c.loop-byte.byte-index c.loop-byte.number (sym c.is_empty.ensures
    ∙ c.if-is_empty.false) (omega arith) c.loop-byte.invariant.digits c.loop-byte.invariant.value
    c.if-number-limit.true

pub returns-else-number-limit : goal.returns-else-number-limit
returns-else-number-limit c =
    number-above c.args.limit c.args.word.now c.loop-byte.byte-index c.loop-byte.number (omega arith)
    c.loop-byte.invariant.value c.if-number-limit.false
