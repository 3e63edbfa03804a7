use Rattle.std.proofs.Common.{◌≡◌, ◌+◌, [], ◌∷◌, ◌++◌, length, take, get_or, sym, ap, subst, ◌∙◌, arith}
use Rattle.std.proofs.lemmas.List.{take_more, take_more_set, take_all}
use Rattle.fsb_signal.specs.Table.{table}
use Rattle.vcd_way.specs.Events.{settled, settled_digits, digits_at}
use Rattle.vcd_course.specs.Told.{rows_told}
use Rattle.vcd_course.proofs.SettleFacts.{length_settled_lines, settled_line_at}
use Rattle.vcd_course.proofs.RowFacts.{length_values, digits_get}
use Rattle.vcd_course.proofs.lines.Rows.settled.Goals as goal

pub loop-line-preserved : goal.loop-line-preserved
loop-line-preserved c =
    let i = c.loop-line.line in
    let rows = rows_told c.loop-line.rows in
    let before = rows_told c.args.self.now in
    let after = rows_told c.args.after.now in
    let n : length rows ≡ 22 = length_values table c.loop-line.rows.rows c.loop-line.rows.long in
    let b : length before ≡ 22 = length_values table c.args.self.now.rows c.args.self.now.long in
    let a : length after ≡ 22 = length_values table c.args.after.now.rows c.args.after.now.long in
    let s : length (settled before after) ≡ 22 = length_settled_lines before after ∙ b in
    let row : settled_digits (digits_at before i) (digits_at after i) ≡ get_or (settled before after) i [] =
    (λ j. settled_digits (digits_get before i j) (digits_get after i j))
    ∙ sym (settled_line_at before after i (b ∙ sym a) (omega (arith, b))) in
    ap (take (i + 1)) c.settle_line.ensures
    ∙ take_more_set rows i (settled_digits (digits_at before i) (digits_at after i)) (omega (arith, n))
    ∙ (λ j. c.loop-line.invariant j ++ row j ∷ [])
    ∙ sym (take_more (settled before after) i [] (omega (arith, s)))

pub returns : goal.returns
returns c =
    let rows = rows_told c.loop-line.rows in
    let before = rows_told c.args.self.now in
    let after = rows_told c.args.after.now in
    let n : length rows ≡ 22 = length_values table c.loop-line.rows.rows c.loop-line.rows.long in
    let b : length before ≡ 22 = length_values table c.args.self.now.rows c.args.self.now.long in
    let s : length (settled before after) ≡ 22 = length_settled_lines before after ∙ b in
    let end : c.loop-line.line ≡ 22 = omega arith in
    sym (take_all 22 rows (omega (arith, n)))
    ∙ subst (λ k. take k rows ≡ take k (settled before after)) end c.loop-line.invariant
    ∙ take_all 22 (settled before after) (omega (arith, s))
