use Rattle.std.proofs.Common.{sym, ap, ◌∙◌}
use Rattle.vcd_way.specs.Events.{samples_among}
use Rattle.scope_both.specs.Usual.{usual_rules}
use Rattle.scope_both.proofs.Readings.{wired-fault, wired-events, wired-quiet, wired-marks}
use Rattle.scope_both.proofs.laws.strict_dumps_are_read_alike.Goals as goal

pub returns-clause-fault : goal.returns-clause-fault
returns-clause-fault c = λ ws early text h takes.
    wired-fault ws early text (sym (c.strict_is_the_grammar.ensures.fault text) ∙ h) takes

pub returns-clause-trace : goal.returns-clause-trace
returns-clause-trace c = λ ws early text h k.
    ap samples_among (wired-events ws early text (sym (c.strict_is_the_grammar.ensures.fault text) ∙ h) k)
    ∙ sym (c.strict_is_the_grammar.ensures.samples text)

pub returns-clause-events : goal.returns-clause-events
returns-clause-events c = λ ws early text h k.
    wired-events ws early text (sym (c.strict_is_the_grammar.ensures.fault text) ∙ h) k

pub returns-clause-marks : goal.returns-clause-marks
returns-clause-marks c = λ ws early text takes.
    wired-marks ws (usual_rules early) text takes ∙ sym (c.strict_is_the_grammar.ensures.marks text)

pub returns-clause-no_hole : goal.returns-clause-no_hole
returns-clause-no_hole c = λ ws early text h takes n.
    wired-quiet ws early text (sym (c.strict_is_the_grammar.ensures.fault text) ∙ h) takes n
