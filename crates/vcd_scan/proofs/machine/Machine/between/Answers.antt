use Rattle.std.proofs.Common.{◌++◌, refl, sym, ap, ◌∙◌, append-nil}
use Rattle.std.proofs.lemmas.Result.{on_ok_weaker}
use Rattle.vcd_grammar.specs.Tokens.{Token}
use Rattle.vcd_way.specs.Steps.{InRemark, Step}
use Rattle.vcd_course.specs.Opening.{after_happenings, told_in}
use Rattle.vcd_scan.specs.Wired.{Wiring}
use Rattle.vcd_scan.specs.Erased.{section_from, remarks_from, erased}
use Rattle.vcd_scan.specs.Told.{rules_in, state_told, open_in, events_told}
use Rattle.vcd_scan.proofs.Erasing.{limit-again}
use Rattle.vcd_scan.proofs.Told.{leaves}
use Rattle.vcd_scan.proofs.Steps.{opens_step}
use Rattle.vcd_scan.proofs.machine.Machine.between.Goals as goal

pub returns-then-opens_remark-clause-state : goal.returns-then-opens_remark-clause-state
returns-then-opens_remark-clause-state c =
    let old = c.args.self.now in
    let t : Token = record { place = c.args.place; word = c.args.word.now } in
    (λ i. record (state_told old) {
      spot = InRemark (section_from t.place (c.nothing.ensures i));
      remarks = remarks_from (sym (limit-again old.limit) i);
    })
    ∙ sym (ap (λ (y : Step Wiring). erased y.state)
    (opens_step old.rules.has_wide_digits (rules_in old) (state_told old) t refl
    (sym c.opens_remark.ensures ∙ c.if-opens_remark.true)))

pub returns-then-opens_remark-clause-opened : goal.returns-then-opens_remark-clause-opened
returns-then-opens_remark-clause-opened c =
    let old = c.args.self.now in
    let t : Token = record { place = c.args.place; word = c.args.word.now } in
    sym (ap (λ (y : Step Wiring). after_happenings (open_in old) y.happenings)
    (opens_step old.rules.has_wide_digits (rules_in old) (state_told old) t refl
    (sym c.opens_remark.ensures ∙ c.if-opens_remark.true)))

pub returns-then-opens_remark-clause-told : goal.returns-then-opens_remark-clause-told
returns-then-opens_remark-clause-told c =
    let old = c.args.self.now in
    let t : Token = record { place = c.args.place; word = c.args.word.now } in
    sym (ap (λ (y : Step Wiring). events_told old.told.items ++ told_in (rules_in old) (open_in old) y.happenings)
    (opens_step old.rules.has_wide_digits (rules_in old) (state_told old) t refl
    (sym c.opens_remark.ensures ∙ c.if-opens_remark.true))
    ∙ append-nil (events_told old.told.items))

pub returns-clause-state : goal.returns-clause-state
returns-clause-state c = on_ok_weaker c.value.result (leaves c.value.new.self _) c.value.ensures.state
