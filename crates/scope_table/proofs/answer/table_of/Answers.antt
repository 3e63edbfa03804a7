use Rattle.std.proofs.Common.{rules, ◌≡◌, ◌∙◌, Err, refl, ap, subst, sym}
use Rattle.vcd_grammar.specs.Judging.{marks_of_lines}
use Rattle.vcd_header.specs.Gathering.{FitsRules}
use Rattle.vcd_joined.specs.Picking.{picking}
use Rattle.scope_way.specs.Wired.{wired_lines}
use Rattle.scope_watch.specs.declared.bus.Picked.TheVariants as picks
use Rattle.scope_watch.specs.Buses.{IsBus, IsPicked}
use Rattle.scope_watch.specs.Heading.{any_header}
use Rattle.scope_watch.specs.Watching.{rules_for}
use Rattle.scope_watch.proofs.Checks.{declares-of, wired-by, taken-by}
use Rattle.scope_table.proofs.Tables.{same-stop, tabled-by, tabled-values}
use Rattle.scope_table.proofs.answer.table_of.Goals as goal

pub returns-in-Refused-clause-tabled : goal.returns-in-Refused-clause-tabled
returns-in-Refused-clause-tabled g c = λ tells held.
    let m = rules_for c.args.sampling in
    let fits : FitsRules m any_header = record { widest = refl; skips_preface = refl } in
    let h = c.in_ok-begun.ensures.read tells m fits in (
      declares-of m c.in_ok-begun.begun _ _ h,
      subst (λ vs. IsPicked vs c.args.choice.now (picks.Refused c.in-Refused.refusal)) c.deref.ensures.value
          (subst (λ x. IsPicked c.deref.result.now c.args.choice.now x) c.in-Refused.is c.in_ok-refusal.ensures),
      refl,
    )

pub returns-in_err-told-in-Wired-clause-tabled : goal.returns-in_err-told-in-Wired-clause-tabled
returns-in_err-told-in-Wired-clause-tabled g c = λ tells held.
    let s = c.args.sampling in
    let m = rules_for s in
    let fits : FitsRules m any_header = record { widest = refl; skips_preface = refl } in
    let b = c.in_ok-begun.begun in
    let bus = c.in-Wired.bus in
    let ws = bus.wiring.wires.items in
    let h = c.in_ok-begun.ensures.read tells m fits in
    let k : IsBus b.header.variables.items c.args.choice.now bus =
    subst (λ vs. IsBus vs c.args.choice.now bus) c.deref.ensures.value
    (subst (λ x. IsPicked c.deref.result.now c.args.choice.now x) c.in-Wired.is c.in_ok-refusal.ensures) in
    let same : c.from_residual-in_err-told-in-Wired.result ≡ Err c.in_err-told-in-Wired.field-0.0 = search rules in
    rw same (tabled-values _ c.args.choice.now c.args.part c.args.form s b.header bus.wiring c.marks_of-marks.result _ _ _ _
    (wired-by c.args.choice.now s b _ _ bus h k) (sym (c.picked_wires_choose.ensures (λ all. ws) m))
    (c.in_err-told-in-Wired.ensures.put tells held (picking (λ all. ws)) h.tokens _ h.stands
    (taken-by c.args.choice.now s b _ _ bus h k)))

pub returns-in_err-told-in-Wired-clause-write_fault : goal.returns-in_err-told-in-Wired-clause-write_fault
returns-in_err-told-in-Wired-clause-write_fault g c = λ tells e.
    let s = c.args.sampling in
    let m = rules_for s in
    let fits : FitsRules m any_header = record { widest = refl; skips_preface = refl } in
    let b = c.in_ok-begun.begun in
    let bus = c.in-Wired.bus in
    let ws = bus.wiring.wires.items in
    let h = c.in_ok-begun.ensures.read tells m fits in
    let k : IsBus b.header.variables.items c.args.choice.now bus =
    subst (λ vs. IsBus vs c.args.choice.now bus) c.deref.ensures.value
    (subst (λ x. IsPicked c.deref.result.now c.args.choice.now x) c.in-Wired.is c.in_ok-refusal.ensures) in
    let same : c.from_residual-in_err-told-in-Wired.result ≡ Err c.in_err-told-in-Wired.field-0.0 = search rules in
    c.in_err-told-in-Wired.ensures.write_fault tells (picking (λ all. ws)) h.tokens _ h.stands
    (taken-by c.args.choice.now s b _ _ bus h k) (ap (λ stop. Err stop) (same-stop _ _ (sym same ∙ e)))

pub returns-in_ok-told-in-Wired-clause-tabled : goal.returns-in_ok-told-in-Wired-clause-tabled
returns-in_ok-told-in-Wired-clause-tabled g c = λ tells held.
    let s = c.args.sampling in
    let m = rules_for s in
    let fits : FitsRules m any_header = record { widest = refl; skips_preface = refl } in
    let b = c.in_ok-begun.begun in
    let bus = c.in-Wired.bus in
    let ws = bus.wiring.wires.items in
    let h = c.in_ok-begun.ensures.read tells m fits in
    let k : IsBus b.header.variables.items c.args.choice.now bus =
    subst (λ vs. IsBus vs c.args.choice.now bus) c.deref.ensures.value
    (subst (λ x. IsPicked c.deref.result.now c.args.choice.now x) c.in-Wired.is c.in_ok-refusal.ensures) in (
      wired-by c.args.choice.now s b _ _ bus h k,
      tabled-by c.in_ok-told-in-Wired.told c.args.part c.args.form c.marks_of-marks.result _ _ _ _ _ _
          (c.marks_of-marks.ensures ∙ ap (λ x. marks_of_lines (wired_lines x)) c.deref-in-Wired.ensures.value)
          (sym (c.picked_wires_choose.ensures (λ all. ws) m))
          (c.in_ok-told-in-Wired.ensures.put tells held (picking (λ all. ws)) h.tokens _ h.stands
          (taken-by c.args.choice.now s b _ _ bus h k)),
    )
