use Rattle.std.proofs.Common.{arith}
use Rattle.std.proofs.Math.Nat.{pow-le-pow_right}
use Rattle.vcd_read.proofs.BinaryDigits.{binary_level}
use Rattle.vcd_read.proofs.levels.level_of_binary.Goals as goal

pub overflow_sub-result : goal.overflow_sub-result
overflow_sub-result c =
    omega (arith, c.ones.ensures, c.ones-2.ensures, pow-le-pow_right {n = 2} (omega arith) c.requires.fits)

pub returns : goal.returns
returns c = λ digits long binary value.
    binary_level c.args.width c.args.count c.args.zeros c.ones.result c.ones-2.result digits c.requires.fits
    long binary value c.ones.ensures c.ones-2.ensures
