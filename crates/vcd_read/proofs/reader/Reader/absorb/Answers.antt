use Rattle.std.proofs.Common.{◌++◌, sym, ap, ◌∙◌, subst, take}
use Rattle.std.proofs.lemmas.Result.{err_from_is_err_and}
use Rattle.vcd_grammar.specs.Reading.{samples_so_far, marks_so_far}
use Rattle.vcd_read.specs.Standing.{Scanned, marks_told}
use Rattle.vcd_read.specs.Answers.{Answers, AppendsBy, result_of, stop_so_far, TellsMarks}
use Rattle.vcd_read.proofs.Standings.{scanned_fits, scanned_more, answers_of, appends_of, stop_is, few_where_none}
use Rattle.vcd_read.proofs.Standings.{faultless_where_none, fed_appends, fed_part, ok_of}
use Rattle.vcd_read.specs.Standing.{GoesOn}
use Rattle.vcd_read.proofs.Marking.{scanned_marks, told_by}
use Rattle.vcd_read.proofs.Behind.{goes_on}
use Rattle.vcd_read.proofs.reader.Reader.absorb.Goals as goal

pub absorb-requires-clause-fits : goal.absorb-requires-clause-fits
absorb-requires-clause-fits c = scanned_fits c.args.self.now.scan c.requires.0 c.requires.1.scanned

pub returns-clause-works : goal.returns-clause-works
returns-clause-works c =
    let r = c.args.self.now in
    let s = c.absorb.new.self in
    ok_of c.answer.result _ c.answer.ensures (λ none fed w.
    let more : Scanned s (fed ++ c.args.piece.now) =
    scanned_more r.scan s fed c.args.piece.now w.scanned c.in_ok-absorb.ensures.state in
    record {
      scanned = more;
      faultless = faultless_where_none r.limit s (fed ++ c.args.piece.now) more none;
      few = few_where_none r.limit s (fed ++ c.args.piece.now) more none;
    })

pub returns-clause-answer : goal.returns-clause-answer
returns-clause-answer c = λ fed w.
    let r = c.args.self.now in
    let s = c.absorb.new.self in
    let more : Scanned s (fed ++ c.args.piece.now) =
    scanned_more r.scan s fed c.args.piece.now w.scanned c.in_ok-absorb.ensures.state in
    let is = stop_is r.limit s (fed ++ c.args.piece.now) more in
    subst (λ a. Answers a (stop_so_far r.limit (fed ++ c.args.piece.now)))
    (sym (c.answer.ensures ∙ ap result_of is)) (answers_of (stop_so_far r.limit (fed ++ c.args.piece.now)))

pub returns-clause-samples : goal.returns-clause-samples
returns-clause-samples c = λ fed w.
    let r = c.args.self.now in
    subst (λ a. AppendsBy a (samples_so_far fed) (take r.limit (samples_so_far (fed ++ c.args.piece.now)))
    c.args.to.now.items c.absorb.new.to.items) (sym c.answer.ensures)
    (appends_of _ (samples_so_far fed) (take r.limit (samples_so_far (fed ++ c.args.piece.now)))
    c.args.to.now.items c.absorb.new.to.items
    (fed_appends r.limit r.scan fed c.args.piece.now c.args.to.now.items c.absorb.new.to.items w.scanned w.few
    c.in_ok-absorb.ensures.samples))

pub returns-in_err-absorb-clause-samples : goal.returns-in_err-absorb-clause-samples
returns-in_err-absorb-clause-samples c = λ fed w.
    let r = c.args.self.now in
    let stop = err_from_is_err_and c.from_residual.result c.from_residual.ensures.1 in
    rw (stop.1, stop.2) (fed_part r.limit r.scan fed c.args.piece.now c.args.to.now.items c.absorb.new.to.items
    w.scanned w.few c.in_err-absorb.ensures.part)

pub returns-clause-marks : goal.returns-clause-marks
returns-clause-marks c = λ fed w.
    let s = c.absorb.new.self in
    let told = marks_so_far (fed ++ c.args.piece.now) in
    let more : Scanned s (fed ++ c.args.piece.now) =
    scanned_more c.args.self.now.scan s fed c.args.piece.now w.scanned c.in_ok-absorb.ensures.state in
    subst (λ a. TellsMarks a told (marks_told c.args.self.now) c.marks-self.result) (sym c.answer.ensures)
    (told_by _ s.machine.fault told (marks_told c.args.self.now) c.marks-self.result (c.marks-self.ensures
    ∙ scanned_marks s (fed ++ c.args.piece.now) more))

pub returns-clause-behind : goal.returns-clause-behind
returns-clause-behind c = λ fed w.
    let r = c.args.self.now in
    let s = c.absorb.new.self in
    let all = fed ++ c.args.piece.now in
    let more : Scanned s all = scanned_more r.scan s fed c.args.piece.now w.scanned c.in_ok-absorb.ensures.state in
    subst (λ a. GoesOn a c.marks-self.result s all) (sym c.answer.ensures)
    (goes_on s all r.limit c.marks-self.result more (c.marks-self.ensures ∙ scanned_marks s all more))

pub returns-in_err-absorb-clause-behind : goal.returns-in_err-absorb-clause-behind
returns-in_err-absorb-clause-behind c = λ fed w.
    let stop = err_from_is_err_and c.from_residual.result c.from_residual.ensures.1 in
    rw (stop.1, stop.2) tt
