use Rattle.std.proofs.Common.{◌-◌, arith}
use Rattle.vcd_read.proofs.CodeKeys.{packed_small}
use Rattle.vcd_read.proofs.codes.packed.Goals as goal

pub overflow_mul-key : goal.overflow_mul-key
overflow_mul-key c = record {
  fits = omega (
    arith,
    c.loop-left.invariant.value,
    packed_small c.args.code.now c.loop-left.left c.requires c.loop-left-test.true c.type_inv.code,
  );
}

pub overflow_add-key : goal.overflow_add-key
overflow_add-key c = record {
  fits = omega (
    arith,
    c.from.ensures,
    (c.type_inv.code (c.loop-left.left - 1)).fits,
    c.loop-left.invariant.value,
    packed_small c.args.code.now c.loop-left.left c.requires
        c.loop-left-test.true c.type_inv.code,
  );
}
