use Rattle.vcd_read.proofs.Ones.{ones_read}
use Rattle.vcd_read.proofs.lanes.block_at.Goals as goal

pub returns-then-one_run-eq-LANES-clause-zeros : goal.returns-then-one_run-eq-LANES-clause-zeros
returns-then-one_run-eq-LANES-clause-zeros c =
    ones_read c.args.bytes.now c.args.at c.one_run.result c.requires c.one_run.ensures c.if-one_run-eq-LANES.true
