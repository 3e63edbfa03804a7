use Rattle.std.proofs.Common.{leb, cond, refl}
use Rattle.std.proofs.lemmas.Simd.{zip2_splat, splat_is_map, length-chunk}
use lib.Lanes.{chunk}
use Rattle.vcd_cut.specs.Cutting.{is_dark}
use Rattle.vcd_cut.proofs.LaneRuns.{joined, itself, run_of}
use Rattle.vcd_cut.proofs.lanes.dark_run.Goals as goal

pub returns : goal.returns
returns c =
    let v = chunk c.args.at 16 c.args.bytes.now in
    let long = length-chunk c.args.at 16 c.args.bytes.now c.requires in
    run_of (λ b. is_dark b) c.args.bytes.now c.args.at _ _ c.requires c.type_inv.bytes c.first_set.ensures _
    (joined _ _ _ v
    (joined _ _ _ v (joined (λ a b. cond (leb a b) 255 0) _ _ v (splat_is_map v 16 9 long) (itself v))
    (zip2_splat _ v 16 14 long)) (zip2_splat _ v 16 32 long)) refl
