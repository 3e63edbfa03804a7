use Rattle.std.proofs.Common.{◌-◌, arith}
use Rattle.vcd_scan.proofs.NumberLemmas.{numbered_small}
use Rattle.vcd_scan.proofs.numbers.number_of.Goals as goal

pub overflow_mul-number : goal.overflow_mul-number
overflow_mul-number c = record {
  fits = omega (
    arith,
    c.loop-left.invariant.value,
    numbered_small c.args.code.now c.loop-left.left c.if-code-gt-LONGEST.false c.loop-left-test.true
        c.loop-left.invariant.printable,
  );
}

pub overflow_add-number : goal.overflow_add-number
overflow_add-number c = record {
  fits = omega (
    arith,
    c.from.ensures,
    (c.type_inv.code (c.loop-left.left - 1)).fits,
    c.loop-left.invariant.value,
    numbered_small c.args.code.now c.loop-left.left c.if-code-gt-LONGEST.false c.loop-left-test.true
        c.loop-left.invariant.printable,
  );
}
