use Rattle.std.proofs.Common.{◌∙◌, Some, map, refl, sym}
use Rattle.fsb_command.specs.Command.{form_meant}
use Rattle.fsb_command.specs.Form.{form_of}
use Rattle.fsb_hazard.specs.Told.{told_after}
use Rattle.fsb_top.proofs.Interface.{completes, lacks_early, no_form, of_form}
use Rattle.fsb_top.specs.CallEnds.{dump_call}
use Rattle.fsb_top.proofs.top.bench.Goals as goal

pub returns-in-Err-clause-ends : goal.returns-in-Err-clause-ends
returns-in-Err-clause-ends g c =
    lacks_early g.S.Source g.O.Sink (dump_call g.D.Sink c.args.dump.now c.args.dump.now) c.args.source.now
    c.args.out.now
    (λ plan. map (λ h. told_after ((goal.Hazard-dyn g (h.vtable, h.value)).is_scripted h.value) plan.hazards
    ((goal.Hazard-dyn g (h.vtable, h.value)).told h.value)) c.args.hazards.items)
    (map (λ p. (goal.Probe-dyn g (p.vtable, p.value)).weight p.value) c.args.probes.items)
    (form_of c.args.words.now) refl

pub returns-in-None-clause-ends : goal.returns-in-None-clause-ends
returns-in-None-clause-ends g c =
    no_form g.S.Source g.O.Sink (dump_call g.D.Sink c.args.dump.now c.args.dump.now) c.args.source.now
    c.args.out.now
    (λ plan. map (λ h. told_after ((goal.Hazard-dyn g (h.vtable, h.value)).is_scripted h.value) plan.hazards
    ((goal.Hazard-dyn g (h.vtable, h.value)).told h.value)) c.args.hazards.items)
    (map (λ p. (goal.Probe-dyn g (p.vtable, p.value)).weight p.value) c.args.probes.items)
    (form_of c.args.words.now) (rw c.in-None.is at c.in-Ok.ensures.form) refl

pub returns-in-Some-clause-ends : goal.returns-in-Some-clause-ends
returns-in-Some-clause-ends g c =
    let known = rw c.in-Some.is at c.in-Ok.ensures.form in
    of_form g.S.Source g.O.Sink (dump_call g.D.Sink c.args.dump.now c.carry_out.new.dump) c.args.source.now
    c.carry_out.new.source c.args.out.now c.carry_out.new.out
    (λ plan. map (λ h. told_after ((goal.Hazard-dyn g (h.vtable, h.value)).is_scripted h.value) plan.hazards
    ((goal.Hazard-dyn g (h.vtable, h.value)).told h.value)) c.args.hazards.items)
    (map (λ p. (goal.Probe-dyn g (p.vtable, p.value)).weight p.value) c.args.probes.items)
    (form_of c.args.words.now) (form_meant c.in-Some.command) c.carry_out.result known c.carry_out.ensures.ends

pub returns-in-Some-clause-complete : goal.returns-in-Some-clause-complete
returns-in-Some-clause-complete g c tells form e readable read write sink =
    let known = rw c.in-Some.is at c.in-Ok.ensures.form in
    let laws = c.files_have_one_answer.ensures in
    completes g.S.Source g.O.Sink (dump_call g.D.Sink c.args.dump.now c.carry_out.new.dump) c.args.source.now
    c.carry_out.new.source c.args.out.now c.carry_out.new.out
    (λ plan. map (λ h. told_after ((goal.Hazard-dyn g (h.vtable, h.value)).is_scripted h.value) plan.hazards
    ((goal.Hazard-dyn g (h.vtable, h.value)).told h.value)) c.args.hazards.items)
    (map (λ p. (goal.Probe-dyn g (p.vtable, p.value)).weight p.value) c.args.probes.items)
    laws.not_faulty laws.not_long tells read write sink form c.carry_out.result readable
    (of_form g.S.Source g.O.Sink (dump_call g.D.Sink c.args.dump.now c.carry_out.new.dump) c.args.source.now
    c.carry_out.new.source c.args.out.now c.carry_out.new.out
    (λ plan. map (λ h. told_after ((goal.Hazard-dyn g (h.vtable, h.value)).is_scripted h.value) plan.hazards
    ((goal.Hazard-dyn g (h.vtable, h.value)).told h.value)) c.args.hazards.items)
    (map (λ p. (goal.Probe-dyn g (p.vtable, p.value)).weight p.value) c.args.probes.items)
    (Some form) (form_meant c.in-Some.command) c.carry_out.result (sym e ∙ known) c.carry_out.ensures.ends)
