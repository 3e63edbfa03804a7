use Rattle.std.proofs.Common.{sym, ap, ◌∙◌, subst}
use Rattle.std.proofs.lemmas.Result.{err_from_is_err_and}
use Rattle.vcd_grammar.specs.Reading.{samples_so_far, samples_before_end, samples_of}
use Rattle.vcd_read.specs.Answers.{Answers, AppendsAtEnd, result_of, stop_at_end}
use Rattle.vcd_read.proofs.Standings.{scanned_fits, answers_of}
use Rattle.vcd_read.proofs.Absorbing.{ok_anyway}
use Rattle.vcd_read.proofs.Marking.{ended_lines}
use Rattle.vcd_read.proofs.Endings.{scan_stop_is, scan_appends, scan_part}
use Rattle.vcd_grammar.specs.Reading.{marks_at_end}
use Rattle.vcd_read.specs.Standing.{marks_told}
use Rattle.vcd_read.specs.Answers.{TellsMarks}
use Rattle.vcd_read.proofs.Behind.{told_end, ended_marks}
use Rattle.vcd_read.proofs.reader.Reader.end.Goals as goal

pub finish-requires : goal.finish-requires
finish-requires c = scanned_fits c.args.self.now.scan c.requires.0 c.requires.1.scanned

pub returns-clause-answer : goal.returns-clause-answer
returns-clause-answer c = λ fed w.
    let r = c.args.self.now in
    let is = scan_stop_is r.scan fed r.limit _ _ c.in_ok-more.more w.scanned c.in_ok-more.ensures.fault
    c.in_ok-more.ensures.decided c.in_ok-more.ensures.rises in
    subst (λ a. Answers a (stop_at_end r.limit fed)) (sym (c.end_answer.ensures ∙ ap result_of is))
    (answers_of (stop_at_end r.limit fed))

pub returns-clause-samples : goal.returns-clause-samples
returns-clause-samples c = λ fed w.
    let r = c.args.self.now in
    subst (λ a. AppendsAtEnd a r.limit (samples_so_far fed) (samples_before_end fed) (samples_of fed)
    c.args.to.now.items c.finish.new.to.items) (sym c.end_answer.ensures)
    (scan_appends r.scan fed r.limit _ _ c.in_ok-more.more c.args.to.now.items c.finish.new.to.items w.scanned w.few
    c.in_ok-more.ensures.fault c.in_ok-more.ensures.decided c.in_ok-more.ensures.rises c.in_ok-more.ensures.samples)

pub returns-in_err-more-clause-samples : goal.returns-in_err-more-clause-samples
returns-in_err-more-clause-samples c = λ fed w.
    let r = c.args.self.now in
    let stop = err_from_is_err_and c.from_residual.result c.from_residual.ensures.1 in
    rw (stop.1, stop.2) (scan_part r.scan fed r.limit c.args.to.now.items c.finish.new.to.items w.scanned w.few
    c.in_err-more.ensures.part)

pub returns-clause-declared : goal.returns-clause-declared
returns-clause-declared c = ok_anyway c.end_answer.result (λ fed w. c.in_ok-more.ensures.lines
    ∙ ended_lines c.args.self.now.scan fed w.scanned)

pub returns-clause-marks : goal.returns-clause-marks
returns-clause-marks c = λ fed w.
    let r = c.args.self.now in
    subst (λ a. TellsMarks a (marks_at_end fed) (marks_told r) c.marks-self.result) (sym c.end_answer.ensures)
    (told_end _ _ _ _ (marks_at_end fed) (marks_told r) c.marks-self.result (c.marks-self.ensures
    ∙ c.in_ok-more.ensures.marks ∙ ended_marks r.scan fed w.scanned))
