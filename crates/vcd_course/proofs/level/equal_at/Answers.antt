use Rattle.std.proofs.lemmas.Simd.{length-chunk}
use lib.Lanes.{chunk}
use Rattle.vcd_course.proofs.Bits.{equal_of}
use Rattle.vcd_course.proofs.level.equal_at.Goals as goal

pub returns : goal.returns
returns c =
    equal_of c.args.byte (chunk c.args.at 16 c.args.row.now) (length-chunk c.args.at 16 c.args.row.now c.requires)
