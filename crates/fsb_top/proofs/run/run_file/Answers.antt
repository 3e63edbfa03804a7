use Rattle.std.proofs.Common.{inl, map, option_map, refl}
use Rattle.fsb_hazard.specs.Told.{told_after}
use Rattle.fsb_script.specs.View.{plan_view}
use Rattle.fsb_top.proofs.Rows.{run_row}
use Rattle.fsb_top.proofs.Stops.{stopped_bench}
use Rattle.fsb_top.specs.CallEnds.{dump_call}
use Rattle.fsb_top.proofs.run.run_file.Goals as goal

pub returns-in-Ok-clause-ends : goal.returns-in-Ok-clause-ends
returns-in-Ok-clause-ends g c =
    run_row g.S.Source g.O.Sink (dump_call g.D.Sink c.args.dump.now c.run_plan.new.dump) c.args.source.now
    c.read_plan.new.source c.args.out.now c.run_plan.new.out
    (λ plan. map (λ h. told_after ((goal.Hazard-dyn g (h.vtable, h.value)).is_scripted h.value) plan.hazards
    ((goal.Hazard-dyn g (h.vtable, h.value)).told h.value)) c.args.hazards.items)
    c.args.bench.now (option_map (λ n. n.now) c.args.name) (plan_view c.in-Ok.plan) c.run_plan.result
    (λ tells. record { read = c.in-Ok.ensures.whole tells; is_bench = c.in-Ok.ensures.plan tells })
    c.run_plan.ensures.ends

pub returns-in-Err-clause-ends : goal.returns-in-Err-clause-ends
returns-in-Err-clause-ends g c = (
  λ none. refl,
  inl (
    stopped_bench g.S.Source c.args.bench.now c.args.source.now c.read_plan.new.source c.in-Err.refusal c.from.result
        c.from.ensures
        (record {
          bad = λ tells fault is. c.in-Err.ensures.bad tells fault (cc);
          bad_whole = λ tells fault is. c.in-Err.ensures.bad_whole tells fault (cc);
          long_read = λ tells is. c.in-Err.ensures.long_read tells (cc);
          memory_read = λ tells is. c.in-Err.ensures.memory_read tells (cc);
          not_read = λ tells is. c.in-Err.ensures.not_read tells (cc);
          read_fault = λ is. c.in-Err.ensures.read_fault (cc);
        }),
    (refl, refl),
  ),
)
