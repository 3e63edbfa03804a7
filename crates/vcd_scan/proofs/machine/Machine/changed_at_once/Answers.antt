use Rattle.std.proofs.Common.{◌≡◌, ◌++◌, ◌∷◌, refl, sym, ap, ◌∙◌, append-nil}
use Rattle.vcd_way.specs.Steps.{DumpState, AtValues}
use Rattle.vcd_course.specs.Opening.{after_happenings, told_in}
use Rattle.vcd_scan.specs.Wired.{Wiring}
use Rattle.vcd_scan.specs.Erased.{erased}
use Rattle.vcd_scan.specs.Told.{rules_in, state_told, open_in, events_told, spot_told}
use Rattle.vcd_scan.specs.Direct.{vector_tokens, known_in, happened_in}
use Rattle.vcd_scan.proofs.Told.{told-erased}
use Rattle.vcd_scan.proofs.AtOnce.{both_steps, both_happen}
use Rattle.vcd_scan.proofs.machine.Machine.changed_at_once.Goals as goal

pub returns-clause-state : goal.returns-clause-state
returns-clause-state c = λ yes place behind.
    let old = c.args.self.now in
    let digits = c.args.digits.now in
    let code = c.args.code.now in
    let s = state_told old in
    let g = c.digits_at_once.ensures.gets yes in
    let here : s.spot ≡ AtValues = ap (λ p. spot_told p old.digits.items) c.requires.values in
    let word : c.args.word.now ≡ 98 ∷ digits = c.requires.word ∙ ap (λ b. b ∷ digits) c.if-first-ne98.false in
    let both = both_steps (rules_in old) old.rules.has_wide_digits s place behind digits code g.taps refl c.requires.fault here
    g.readable g.known c.requires.short g.found g.narrow in
    c.digits_at_once.ensures.state
    ∙ sym (told-erased old)
    ∙ ap (λ (x : DumpState Wiring). erased x)
    (sym (ap (λ w. known_in old (vector_tokens place w behind code)) word ∙ both ∙ (λ i. record s { spot = sym here i })))

pub returns-clause-opened : goal.returns-clause-opened
returns-clause-opened c = λ yes place behind.
    let old = c.args.self.now in
    let digits = c.args.digits.now in
    let code = c.args.code.now in
    let s = state_told old in
    let g = c.digits_at_once.ensures.gets yes in
    let here : s.spot ≡ AtValues = ap (λ p. spot_told p old.digits.items) c.requires.values in
    let word : c.args.word.now ≡ 98 ∷ digits = c.requires.word ∙ ap (λ b. b ∷ digits) c.if-first-ne98.false in
    let both = both_happen (rules_in old) old.rules.has_wide_digits s place behind digits code g.taps refl c.requires.fault here
    g.readable g.known c.requires.short g.found g.narrow in
    g.opened
    ∙ ap (after_happenings (open_in old))
    (sym (ap (λ w. happened_in old (vector_tokens place w behind code)) word ∙ both))

pub returns-clause-told : goal.returns-clause-told
returns-clause-told c = λ yes place behind.
    let old = c.args.self.now in
    let digits = c.args.digits.now in
    let code = c.args.code.now in
    let s = state_told old in
    let g = c.digits_at_once.ensures.gets yes in
    let here : s.spot ≡ AtValues = ap (λ p. spot_told p old.digits.items) c.requires.values in
    let word : c.args.word.now ≡ 98 ∷ digits = c.requires.word ∙ ap (λ b. b ∷ digits) c.if-first-ne98.false in
    let both = both_happen (rules_in old) old.rules.has_wide_digits s place behind digits code g.taps refl c.requires.fault here
    g.readable g.known c.requires.short g.found g.narrow in
    ap (λ t. events_told t.items) c.digits_at_once.ensures.told
    ∙ sym (append-nil (events_told old.told.items))
    ∙ ap (λ hs. events_told old.told.items ++ told_in (rules_in old) (open_in old) hs)
    (sym (ap (λ w. happened_in old (vector_tokens place w behind code)) word ∙ both))
