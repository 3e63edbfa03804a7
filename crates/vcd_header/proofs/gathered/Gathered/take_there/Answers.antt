use Rattle.std.proofs.Common.{◌≡◌, true, false, if◌then◌else◌, sym, ap, ◌∙◌}
use Rattle.std.proofs.lemmas.Result.{on_ok_weaker}
use Rattle.vcd_grammar.specs.Tokens.{Token}
use Rattle.vcd_grammar.specs.Words.{header_word, is_dollar}
use Rattle.vcd_way.specs.Steps.{AtPreface, AtHeader, InSection, if_short, header_step, reads_past}
use Rattle.vcd_header.specs.Told.{state_told, section_told, spot_told}
use Rattle.vcd_header.proofs.Sections.{step_there}
use Rattle.vcd_header.proofs.gathered.Gathered.take_there.Goals as goal

pub returns-then-is_dollar-clause-state : goal.returns-then-is_dollar-clause-state
returns-then-is_dollar-clause-state c = λ m f.
    let g = c.args.self.now in
    let t : Token = record { place = c.args.place; word = c.args.word.now } in
    let dollar : is_dollar t.word ≡ true = sym c.is_dollar.ensures ∙ c.if-is_dollar.true in
    on_ok_weaker c.between.result
    (λ h. step_there m (state_told g) t AtPreface _ c.requires.fault (ap (λ s. spot_told s g.section) c.in-Preface.is)
    (h ∙ sym (ap (λ b. (if b then if_short (state_told g) t (header_step (state_told g) t (header_word t.word))
    else reads_past (state_told g)).state) dollar)))
    c.between.ensures.state

pub returns-else-is_dollar-clause-state : goal.returns-else-is_dollar-clause-state
returns-else-is_dollar-clause-state c = λ m f.
    let g = c.args.self.now in
    let t : Token = record { place = c.args.place; word = c.args.word.now } in
    let bare : is_dollar t.word ≡ false = sym c.is_dollar.ensures ∙ c.if-is_dollar.false in
    step_there m (state_told g) t AtPreface (state_told g) c.requires.fault
    (ap (λ s. spot_told s g.section) c.in-Preface.is)
    (sym (ap (λ b. (if b then if_short (state_told g) t (header_step (state_told g) t (header_word t.word))
    else reads_past (state_told g)).state) bare))

pub returns-in-Between-clause-state : goal.returns-in-Between-clause-state
returns-in-Between-clause-state c = λ m f.
    let g = c.args.self.now in
    let t : Token = record { place = c.args.place; word = c.args.word.now } in
    on_ok_weaker c.between-in-Between.result
    (λ h. step_there m (state_told g) t AtHeader _ c.requires.fault (ap (λ s. spot_told s g.section) c.in-Between.is) h)
    c.between-in-Between.ensures.state

pub returns-in-Inside-clause-state : goal.returns-in-Inside-clause-state
returns-in-Inside-clause-state c = λ m f.
    let g = c.args.self.now in
    let t : Token = record { place = c.args.place; word = c.args.word.now } in
    on_ok_weaker c.inside.result
    (λ h. step_there m (state_told g) t (InSection (section_told g.section)) _ c.requires.fault
    (ap (λ s. spot_told s g.section) c.in-Inside.is) h)
    (c.inside.ensures.state m f)
