use Rattle.std.proofs.Common.{◌==◌, refl}
use Rattle.std.proofs.lemmas.Simd.{zip2_splat, length-chunk}
use lib.Lanes.{chunk}
use Rattle.vcd_read.proofs.LaneRuns.{run_of}
use Rattle.vcd_read.proofs.lanes.one_run.Goals as goal

pub returns : goal.returns
returns c =
    let v = chunk c.args.at 16 c.args.bytes.now in
    let long = length-chunk c.args.at 16 c.args.bytes.now c.requires in
    run_of (λ b. b == 49) c.args.bytes.now c.args.at _ _ c.requires c.type_inv.bytes c.first_set.ensures _
    (zip2_splat _ v 16 49 long) refl
