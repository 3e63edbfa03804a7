use Rattle.fsb_core.specs.Benches.{bench_view}
use Rattle.fsb_script.specs.View.{plan_view}
use Rattle.fsb_play.proofs.NoParity.{no-parity-of}
use Rattle.fsb_play.proofs.output.write_dump.Goals as goal

pub put_dump-requires-clause-parity : goal.put_dump-requires-clause-parity
put_dump-requires-clause-parity g c one =
    no-parity-of (bench_view c.args.bench.now).run (plan_view c.plan.result.now) c.trace.result.now
    c.is_simulated.ensures.timely c.plan.ensures c.trace.ensures one
