use Rattle.std.proofs.Common.{arith, sym, ◌∙◌, refl, [], append-nil}
use Rattle.std.proofs.lemmas.Result.{on_ok_weaker}
use Rattle.fsb_io.proofs.Interface.{written_none, written_more, written_part, written_all}
use Rattle.fsb_report.specs.LogText.{log_text, log_line_text}
use Rattle.fsb_play.proofs.LinesAhead.{lines_ahead, lines_end}
use Rattle.fsb_play.proofs.text.write_log.Goals as goal

pub loop-done-init : goal.loop-done-init
unfolding log_text
loop-done-init g c = (λ tells. written_none _ _, λ tells. refl, omega arith)

pub returns-in_err-write_line-clause-part : goal.returns-in_err-write_line-clause-part
returns-in_err-write_line-clause-part g c tells =
    written_part _ _ _ _ _ _ _ (c.loop-done.invariant.0 tells)
    (lines_ahead log_line_text c.args.log.now c.loop-done.done-index _ _ (omega arith))
    (c.write_line.ensures.part tells)

pub loop-done-preserved : goal.loop-done-preserved
loop-done-preserved g c = (
  λ tells. written_more _ _ _ _ _ _ _ (c.loop-done.invariant.0 tells)
      (lines_ahead log_line_text c.args.log.now c.loop-done.done-index _ _ (omega arith))
      (c.in_ok-write_line.ensures.whole tells),
  λ tells. c.write_line.ensures.name_stays tells ∙ c.loop-done.invariant.1 tells,
  omega (arith, c.loop-done.invariant.2, c.write_line.ensures.cause.later),
)

pub returns-clause-whole : goal.returns-clause-whole
returns-clause-whole g c tells =
    on_ok_weaker c.write_end.result
    (λ whole. written_all _ [] _ _ (written_more _ _ _ [] _ _ _ (c.loop-done.invariant.0 tells)
    (lines_end log_line_text c.args.log.now c.loop-done.done-index _ c.loop-done-test.false
    ∙ sym (append-nil _)) whole) refl)
    (c.write_end.ensures.whole tells)

pub returns-clause-part : goal.returns-clause-part
returns-clause-part g c tells =
    written_part _ _ _ [] _ _ _ (c.loop-done.invariant.0 tells)
    (lines_end log_line_text c.args.log.now c.loop-done.done-index _ c.loop-done-test.false
    ∙ sym (append-nil _)) (c.write_end.ensures.part tells)
