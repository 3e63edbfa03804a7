use Rattle.std.proofs.Common.{◌++◌, sym, ap, ◌∙◌}
use Rattle.std.proofs.lemmas.Result.{on_ok_weaker}
use Rattle.vcd_grammar.specs.Tokens.{Token}
use Rattle.vcd_way.specs.Steps.{AtValues, AtCode, AtOtherCode, InRemark, Step}
use Rattle.vcd_scan.specs.Erased.{section_from, erased}
use Rattle.vcd_course.specs.Opening.{after_happenings, told_in}
use Rattle.vcd_scan.specs.Wired.{Wiring}
use Rattle.vcd_scan.specs.Told.{rules_in, state_told, open_in, events_told, spot_told}
use Rattle.vcd_scan.proofs.Told.{leaves}
use Rattle.vcd_scan.proofs.Steps.{step_is}
use Rattle.vcd_scan.proofs.machine.Machine.take.Goals as goal

pub returns-in-Values-clause-state : goal.returns-in-Values-clause-state
returns-in-Values-clause-state c =
    let old = c.args.self.now in
    let t : Token = record { place = c.args.place; word = c.args.word.now } in
    on_ok_weaker c.between.result
    (λ h. h ∙ sym (ap (λ (y : Step Wiring). erased y.state)
    (step_is (rules_in old) (state_told old) t AtValues c.requires.fault
    (ap (λ p. spot_told p old.digits.items) c.in-Values.is)))) c.between.ensures.state

pub returns-in-Values-clause-opened : goal.returns-in-Values-clause-opened
returns-in-Values-clause-opened c =
    let old = c.args.self.now in
    let t : Token = record { place = c.args.place; word = c.args.word.now } in
    on_ok_weaker c.between.result
    (λ h. h ∙ sym (ap (λ (y : Step Wiring). after_happenings (open_in old) y.happenings)
    (step_is (rules_in old) (state_told old) t AtValues c.requires.fault
    (ap (λ p. spot_told p old.digits.items) c.in-Values.is)))) c.between.ensures.opened

pub returns-in-Values-clause-told : goal.returns-in-Values-clause-told
returns-in-Values-clause-told c =
    let old = c.args.self.now in
    let t : Token = record { place = c.args.place; word = c.args.word.now } in
    on_ok_weaker c.between.result
    (λ h. h ∙ sym (ap (λ (y : Step Wiring). events_told old.told.items ++ told_in (rules_in old) (open_in old) y.happenings)
    (step_is (rules_in old) (state_told old) t AtValues c.requires.fault
    (ap (λ p. spot_told p old.digits.items) c.in-Values.is)))) c.between.ensures.told

pub returns-in-Code-clause-state : goal.returns-in-Code-clause-state
returns-in-Code-clause-state c =
    let old = c.args.self.now in
    let t : Token = record { place = c.args.place; word = c.args.word.now } in
    on_ok_weaker c.vector_code.result
    (λ h. leaves c.vector_code.new.self _ h ∙ sym (ap (λ (y : Step Wiring). erased y.state)
    (step_is (rules_in old) (state_told old) t (AtCode c.in-Code.from c.args.self.now.digits.items) c.requires.fault
    (ap (λ p. spot_told p old.digits.items) c.in-Code.is)))) c.vector_code.ensures.state

pub returns-in-Code-clause-opened : goal.returns-in-Code-clause-opened
returns-in-Code-clause-opened c =
    let old = c.args.self.now in
    let t : Token = record { place = c.args.place; word = c.args.word.now } in
    on_ok_weaker c.vector_code.result
    (λ h. h ∙ sym (ap (λ (y : Step Wiring). after_happenings (open_in old) y.happenings)
    (step_is (rules_in old) (state_told old) t (AtCode c.in-Code.from c.args.self.now.digits.items) c.requires.fault
    (ap (λ p. spot_told p old.digits.items) c.in-Code.is)))) c.vector_code.ensures.opened

pub returns-in-Code-clause-told : goal.returns-in-Code-clause-told
returns-in-Code-clause-told c =
    let old = c.args.self.now in
    let t : Token = record { place = c.args.place; word = c.args.word.now } in
    on_ok_weaker c.vector_code.result
    (λ h. h ∙ sym (ap (λ (y : Step Wiring). events_told old.told.items ++ told_in (rules_in old) (open_in old) y.happenings)
    (step_is (rules_in old) (state_told old) t (AtCode c.in-Code.from c.args.self.now.digits.items) c.requires.fault
    (ap (λ p. spot_told p old.digits.items) c.in-Code.is)))) c.vector_code.ensures.told

pub returns-in-Remark-clause-state : goal.returns-in-Remark-clause-state
returns-in-Remark-clause-state c =
    let old = c.args.self.now in
    let t : Token = record { place = c.args.place; word = c.args.word.now } in
    c.remark.ensures.state
    ∙ sym (ap (λ (y : Step Wiring). erased y.state)
    (step_is (rules_in old) (state_told old) t (InRemark (section_from c.in-Remark.from c.in-Remark.heard))
    c.requires.fault (ap (λ p. spot_told p old.digits.items) c.in-Remark.is)))

pub returns-in-Remark-clause-opened : goal.returns-in-Remark-clause-opened
returns-in-Remark-clause-opened c =
    let old = c.args.self.now in
    let t : Token = record { place = c.args.place; word = c.args.word.now } in
    c.remark.ensures.opened
    ∙ sym (ap (λ (y : Step Wiring). after_happenings (open_in old) y.happenings)
    (step_is (rules_in old) (state_told old) t (InRemark (section_from c.in-Remark.from c.in-Remark.heard))
    c.requires.fault (ap (λ p. spot_told p old.digits.items) c.in-Remark.is)))

pub returns-in-Remark-clause-told : goal.returns-in-Remark-clause-told
returns-in-Remark-clause-told c =
    let old = c.args.self.now in
    let t : Token = record { place = c.args.place; word = c.args.word.now } in
    c.remark.ensures.told
    ∙ sym (ap (λ (y : Step Wiring). events_told old.told.items ++ told_in (rules_in old) (open_in old) y.happenings)
    (step_is (rules_in old) (state_told old) t (InRemark (section_from c.in-Remark.from c.in-Remark.heard))
    c.requires.fault (ap (λ p. spot_told p old.digits.items) c.in-Remark.is)))

pub returns-in-OtherCode-clause-state : goal.returns-in-OtherCode-clause-state
returns-in-OtherCode-clause-state c =
    let old = c.args.self.now in
    let t : Token = record { place = c.args.place; word = c.args.word.now } in
    leaves c.other_code.new.self _ c.other_code.ensures.state
    ∙ sym (ap (λ (y : Step Wiring). erased y.state)
    (step_is (rules_in old) (state_told old) t (AtOtherCode c.in-OtherCode.field-0) c.requires.fault
    (ap (λ p. spot_told p old.digits.items) c.in-OtherCode.is)))

pub returns-in-OtherCode-clause-opened : goal.returns-in-OtherCode-clause-opened
returns-in-OtherCode-clause-opened c =
    let old = c.args.self.now in
    let t : Token = record { place = c.args.place; word = c.args.word.now } in
    c.other_code.ensures.opened
    ∙ sym (ap (λ (y : Step Wiring). after_happenings (open_in old) y.happenings)
    (step_is (rules_in old) (state_told old) t (AtOtherCode c.in-OtherCode.field-0) c.requires.fault
    (ap (λ p. spot_told p old.digits.items) c.in-OtherCode.is)))

pub returns-in-OtherCode-clause-told : goal.returns-in-OtherCode-clause-told
returns-in-OtherCode-clause-told c =
    let old = c.args.self.now in
    let t : Token = record { place = c.args.place; word = c.args.word.now } in
    c.other_code.ensures.told
    ∙ sym (ap (λ (y : Step Wiring). events_told old.told.items ++ told_in (rules_in old) (open_in old) y.happenings)
    (step_is (rules_in old) (state_told old) t (AtOtherCode c.in-OtherCode.field-0) c.requires.fault
    (ap (λ p. spot_told p old.digits.items) c.in-OtherCode.is)))
