use Rattle.std.proofs.Common.{Some, ap, sym, ◌∙◌, subst}
use Rattle.std.proofs.lemmas.Result.{on_ok_weaker}
use Rattle.vcd_grammar.specs.Reading.{marks_at_end}
use Rattle.vcd_read.specs.Standing.{marks_told}
use Rattle.vcd_read.specs.Answers.{TellsMarks}
use Rattle.vcd_read.proofs.Marking.{whole_marks}
use Rattle.vcd_read.proofs.Behind.{read_marks}
use Rattle.vcd_read.proofs.reader.Reader.finish.Goals as goal

pub returns-in-Ok-clause-marks : goal.returns-in-Ok-clause-marks
returns-in-Ok-clause-marks c =
    on_ok_weaker c.end-answer.result
    (λ declared fed s. ap Some (whole_marks fed _ _ (declared fed (s.works c.in_default.is)) c.declared_marks.ensures))
    c.end-answer.ensures.declared

pub returns-in-Ok-clause-marks_at_end : goal.returns-in-Ok-clause-marks_at_end
returns-in-Ok-clause-marks_at_end c = λ fed stood none.
    let r = c.args.self.now in
    let works = stood.works none in
    subst (λ a. TellsMarks a (marks_at_end fed) (marks_told r) (Some c.declared_marks.result)) (sym c.in-Ok.is)
    (ap Some (whole_marks fed _ _ (c.in-Ok.ensures.declared fed works) c.declared_marks.ensures)
    ∙ sym (read_marks fed r.limit (c.in-Ok.ensures.answer fed works)))
