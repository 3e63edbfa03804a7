use Rattle.fsb_core.specs.Benches.{bench_view}
use Rattle.fsb_script.specs.View.{plan_view}
use Rattle.fsb_play.proofs.NoParity.{no-parity-of}
use Rattle.fsb_play.proofs.clocks.run_clocks.Goals as goal

pub its_dump_reads_back-requires-clause-parity : goal.its_dump_reads_back-requires-clause-parity
its_dump_reads_back-requires-clause-parity g c one =
    no-parity-of (bench_view c.take_clocks.new.bench).run (plan_view c.plan.result.now) c.trace.result.now
    c.is_simulated.ensures.timely c.plan.ensures c.trace.ensures one
