use Rattle.std.proofs.Common.{◌≡◌, true, get_or, ◌∙◌, sym, arith}
use Rattle.std.proofs.lemmas.Bool.{and_from}
use Rattle.std.proofs.lemmas.List.Folds.{list_all_more}
use Rattle.vcd_grammar.specs.Digits.{is_digit}
use Rattle.vcd_read.proofs.Numbers.{not_empty, number-other, number-read, number-above, number_from-more, number-room}
use Rattle.vcd_read.proofs.Numbers.{number-grown, digit-few}
use Rattle.vcd_read.proofs.digits.short_number_up_to.Goals as goal

pub returns-then-not-is_digit : goal.returns-then-not-is_digit
returns-then-not-is_digit c =
    number-other c.args.limit c.args.word.now c.loop-byte.byte-index c.loop-byte-test.true
    (sym c.is_digit.ensures ∙ c.if-not-is_digit.true)

pub overflow_mul-number : goal.overflow_mul-number
overflow_mul-number c =
    omega (
      arith,
      number-room c.loop-byte.number c.loop-byte.byte-index
          (omega (arith, c.loop-byte-test.true, c.requires.short)) c.loop-byte.invariant.small,
    )

pub overflow_add-number : goal.overflow_add-number
overflow_add-number c =
    omega (
      arith,
      number-room c.loop-byte.number c.loop-byte.byte-index
          (omega (arith, c.loop-byte-test.true, c.requires.short)) c.loop-byte.invariant.small,
      digit-few (get_or c.args.word.now c.loop-byte.byte-index 0) (sym c.is_digit.ensures ∙ c.if-not-is_digit.false),
      c.from.ensures,
    )

pub loop-byte-preserved : goal.loop-byte-preserved
loop-byte-preserved c =
    let word = c.args.word.now in
    let i = c.loop-byte.byte-index in
    let digit : is_digit (get_or word i 0) ≡ true = sym c.is_digit.ensures ∙ c.if-not-is_digit.false in
    record {
      digits = list_all_more is_digit word i 0 c.loop-byte-test.true ∙ and_from _ _ c.loop-byte.invariant.digits digit;
      value = rw c.from.ensures (sym (number_from-more c.loop-byte.number word i c.loop-byte-test.true)
          ∙ c.loop-byte.invariant.value);
      small = rw c.from.ensures (number-grown c.loop-byte.number _ i c.loop-byte.invariant.small (digit-few _ digit));
    }

pub returns-then-number-limit : goal.returns-then-number-limit
returns-then-number-limit c =
    number-read c.args.limit c.args.word.now c.loop-byte.byte-index c.loop-byte.number
    (not_empty c.args.word.now c.requires.some) c.loop-byte-test.false c.loop-byte.invariant.digits
    c.loop-byte.invariant.value c.if-number-limit.true

pub returns-else-number-limit : goal.returns-else-number-limit
returns-else-number-limit c =
    number-above c.args.limit c.args.word.now c.loop-byte.byte-index c.loop-byte.number c.loop-byte-test.false
    c.loop-byte.invariant.value c.if-number-limit.false
