use Rattle.std.proofs.lemmas.Simd.{length-chunk}
use lib.Lanes.{chunk}
use Rattle.vcd_read.proofs.BinaryDigits.{zeros_of}
use Rattle.vcd_read.proofs.lanes.zeros_at.Goals as goal

pub returns : goal.returns
returns c = zeros_of (chunk c.args.at 16 c.args.bytes.now) (length-chunk c.args.at 16 c.args.bytes.now c.requires)
