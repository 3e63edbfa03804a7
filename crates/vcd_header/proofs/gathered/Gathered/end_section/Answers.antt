use Rattle.std.proofs.Common.{◌≡◌, true, false, codes, List, sym, ap, ◌∙◌}
use Rattle.std.proofs.lemmas.Result.{on_ok_weaker}
use Rattle.vcd_grammar.specs.Words.{same, header_word}
use Rattle.vcd_way.specs.Declarations.{Declaration}
use Rattle.vcd_way.specs.Steps.{Step, section_end, is_declaring}
use Rattle.vcd_header.specs.Told.{state_told, section_told}
use Rattle.vcd_header.specs.Gathering.{gathering}
use Rattle.vcd_header.proofs.Sections.{finishes_is, other_end}
use Rattle.vcd_header.proofs.gathered.Gathered.end_section.Goals as goal

pub returns-then-eq-clause-state : goal.returns-then-eq-clause-state
returns-then-eq-clause-state c = λ m f.
    let g = c.args.self.now in
    let word = g.section.keyword.items in
    let no : is_declaring (header_word word) ≡ false = sym c.is_declaring.ensures ∙ c.if-is_declaring.false in
    let yes : same (codes "$enddefinitions") word ≡ true =
    sym (c.eq.ensures ∙ (λ i. same (c.as_slice.ensures i) (c.as_slice-2.ensures.value i))) ∙ c.if-eq.true in
    sym (ap (λ w. (section_end (gathering m) (state_told g) (section_told g.section) w).state) (finishes_is word no yes))

pub returns-clause-state : goal.returns-clause-state
returns-clause-state c = λ m f.
    let g = c.args.self.now in
    let word = g.section.keyword.items in
    let no : is_declaring (header_word word) ≡ false = sym c.is_declaring.ensures ∙ c.if-is_declaring.false in
    let other : same (codes "$enddefinitions") word ≡ false =
    sym (c.eq.ensures ∙ (λ i. same (c.as_slice.ensures i) (c.as_slice-2.ensures.value i))) ∙ c.if-eq.false in
    on_ok_weaker c.keep_section.result
    (λ h. h ∙ sym (ap (λ (x : Step (List Declaration)). x.state)
    (other_end m (state_told g) (section_told g.section) word no other))) c.keep_section.ensures.state
