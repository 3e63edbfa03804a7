use Rattle.std.proofs.Common.{◌≡◌, ◌+◌, ◌-◌, ◌*◌, take, get_or, true, ◌∙◌, sym, ap, arith}
use Rattle.std.proofs.lemmas.Bool.{and_from}
use Rattle.std.proofs.lemmas.List.{take_more}
use Rattle.std.proofs.lemmas.List.Folds.{list_all_more}
use Rattle.vcd_grammar.specs.Digits.{is_digit, number_from}
use Rattle.vcd_read.proofs.Numbers.{number-room, number-grown, digit-few, number_from-push}
use Rattle.vcd_read.proofs.digits.number_before.Goals as goal

pub overflow_mul-number : goal.overflow_mul-number
overflow_mul-number c =
    omega (
      arith,
      number-room c.loop-i.number c.loop-i.i
          (omega (arith, c.loop-i.invariant.few, c.if-i-eq15.false)) c.loop-i.invariant.small,
    )

pub overflow_add-number : goal.overflow_add-number
overflow_add-number c =
    omega (
      arith,
      number-room c.loop-i.number c.loop-i.i (omega (arith, c.loop-i.invariant.few, c.if-i-eq15.false))
          c.loop-i.invariant.small,
      digit-few (get_or c.args.text.now c.loop-i.i 0) (sym c.is_digit.ensures ∙ c.if-not-is_digit.false),
      c.from.ensures,
    )

pub loop-i-preserved : goal.loop-i-preserved
loop-i-preserved c =
    let text = c.args.text.now in
    let i = c.loop-i.i in
    let byte = get_or text i 0 in
    let digit : is_digit byte ≡ true = sym c.is_digit.ensures ∙ c.if-not-is_digit.false in
    record {
      few = omega (arith, c.loop-i.invariant.few, c.if-i-eq15.false);
      digits = list_all_more is_digit text i 0 c.loop-i-test.true ∙ and_from _ _ c.loop-i.invariant.digits digit;
      value = rw c.from.ensures (ap (number_from 0) (take_more text i 0 c.loop-i-test.true)
          ∙ number_from-push 0 (take i text) byte ∙ ap (λ n. n * 10 + (byte - 48)) c.loop-i.invariant.value);
      small = rw c.from.ensures (number-grown c.loop-i.number _ i c.loop-i.invariant.small (digit-few _ digit));
    }
