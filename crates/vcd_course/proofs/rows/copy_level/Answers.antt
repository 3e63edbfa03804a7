use Rattle.std.proofs.Common.{[], get_or, map, set, sym, ap, ◌∙◌, arith}
use Rattle.std.proofs.lemmas.List.{get_or-map, map-set}
use Rattle.vcd_grammar.specs.declared.level.Level.{Level}
use Rattle.vcd_grammar.specs.Levels.{level_of}
use Rattle.vcd_way.specs.Events.{digits_at}
use Rattle.vcd_course.proofs.RowFacts.{digits_get}
use Rattle.vcd_course.proofs.rows.copy_level.Goals as goal

pub returns-then-line-lt22 : goal.returns-then-line-lt22
returns-then-line-lt22 c before after eb ef lb la =
    let i = c.args.line in
    let none : Level = record { asserted = 0; unknown = 0 } in
    (λ j. set (eb j) i (get_or (ef j) i none))
    ∙ ap (set (map level_of before) i)
    (get_or-map level_of after i [] none (omega (arith, c.if-line-lt22.true, la))
    ∙ ap level_of (sym (digits_get after i)))
    ∙ sym (map-set level_of before i (digits_at after i))
