use Rattle.std.proofs.Common.{◌≡◌, IfOk, option_map, sym, ap, subst, ◌∙◌}
use Rattle.vcd_way.specs.Declarations.{declaration_with}
use Rattle.vcd_header.specs.Told.{words_told, section_told, declaration_told}
use Rattle.vcd_header.proofs.Sections.{declaration_as}
use Rattle.vcd_header.proofs.gathered.Gathered.declared.Goals as goal

pub returns-in-None : goal.returns-in-None
returns-in-None c =
    let g = c.args.self.now in
    ap (declaration_with (words_told g.path.items) (section_told g.section)) (sym c.in-None.is)
    ∙ declaration_as g.rules.widest (words_told g.path.items) (section_told g.section) c.word.result.now
    c.number_up_to.result c.number_up_to.ensures c.word.ensures

pub returns-in-Some : goal.returns-in-Some
returns-in-Some c =
    let g = c.args.self.now in
    subst (λ d. IfOk c.with_width.result (λ x. option_map declaration_told x ≡ d))
    (ap (declaration_with (words_told g.path.items) (section_told g.section)) (sym c.in-Some.is)
    ∙ declaration_as g.rules.widest (words_told g.path.items) (section_told g.section) c.word.result.now
    c.number_up_to.result c.number_up_to.ensures c.word.ensures)
    c.with_width.ensures
