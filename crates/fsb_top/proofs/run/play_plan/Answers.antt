use Rattle.fsb_play.specs.Benches.{bench_view}
use Rattle.fsb_play.specs.Printed.{dump_named, printed_text}
use Rattle.fsb_script.specs.View.{plan_view}
use Rattle.fsb_top.proofs.Rows.{plan_played}
use Rattle.fsb_top.proofs.run.play_plan.Goals as goal

pub returns-clause-ends : goal.returns-clause-ends
returns-clause-ends g c =
    plan_played g.O.Sink g.D.Sink c.args.out.now c.play-played.new.out c.args.dump.now c.play-played.new.dump _ _
    (plan_view c.args.plan) (printed_text c.args.print.now) (dump_named c.args.print.now) (bench_view c.in-Ok.bench)
    (bench_view c.play-played.new.bench) c.play-played.result c.from.result c.from.ensures c.in-Ok.ensures.first
    c.in-Ok.ensures.told c.play-played.ensures.run
    (record {
      write_fault = c.play-played.ensures.write_fault;
      dump_fault = c.play-played.ensures.dump_fault;
      has_name = c.play-played.ensures.dump_has_name;
      printed = c.play-played.ensures.printed;
      part = c.play-played.ensures.printed_part;
      not_begun = c.play-played.ensures.not_begun;
      no_dump = c.play-played.ensures.no_dump;
      whole = c.play-played.ensures.whole_dump;
      dump_part = c.play-played.ensures.dump_part;
    })
