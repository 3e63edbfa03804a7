use Rattle.std.proofs.Common.{sym, ◌∙◌}
use Rattle.vcd_grammar.specs.Reading.{samples_of, marks_of}
use Rattle.scope_both.proofs.Readings.{wired-found}
use Rattle.scope_both.proofs.laws.both_find_the_same.Goals as goal

pub returns : goal.returns
returns c = λ ws early text f h k r found.
    let both = c.strict_is_the_grammar.ensures in
    wired-found ws early text (samples_of text) (marks_of text) f (sym (both.fault text) ∙ h) (both.samples text)
    (both.marks text) k r found
