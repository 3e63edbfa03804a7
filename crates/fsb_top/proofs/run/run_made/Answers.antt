use Rattle.std.proofs.Common.{map}
use Rattle.fsb_hazard.specs.Told.{told_after}
use Rattle.fsb_script.specs.View.{plan_view}
use Rattle.fsb_top.proofs.Rows.{gen_row}
use Rattle.fsb_top.specs.CallEnds.{dump_call}
use Rattle.fsb_top.proofs.run.run_made.Goals as goal

pub returns-clause-ends : goal.returns-clause-ends
returns-clause-ends g c =
    gen_row g.O.Sink (dump_call g.D.Sink c.args.dump.now c.play_plan.new.dump) c.args.out.now c.play_plan.new.out
    (λ plan. map (λ h. told_after ((goal.Hazard-dyn g (h.vtable, h.value)).is_scripted h.value) plan.hazards
    ((goal.Hazard-dyn g (h.vtable, h.value)).told h.value)) c.args.hazards.items)
    c.args.seed c.args.agents c.args.items (plan_view c.in-Ok.plan) c.play_plan.result c.in-Ok.ensures
    c.play_plan.ensures.ends
