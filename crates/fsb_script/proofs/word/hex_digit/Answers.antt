use Rattle.std.proofs.Common.{refl, ◌∙◌}
use Rattle.std.proofs.lemmas.Bool.{lt-ltb}
use Rattle.fsb_script.proofs.HexDigits.{digit_found, none_found}
use Rattle.fsb_script.proofs.word.hex_digit.Goals as goal

pub returns-then-digit-lt16-clause-value : goal.returns-then-digit-lt16-clause-value
returns-then-digit-lt16-clause-value c = digit_found c.args.byte c.ranges.byte.fits
    ∙ rw (lt-ltb _ 16 c.if-digit-lt16.true) refl

pub returns-else-digit-lt16-clause-value : goal.returns-else-digit-lt16-clause-value
returns-else-digit-lt16-clause-value c = none_found c.args.byte c.ranges.byte.fits c.if-digit-lt16.false
