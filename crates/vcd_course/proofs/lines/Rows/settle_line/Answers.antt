use Rattle.std.proofs.Common.{[], get_or, set, take, sym, ap, ◌∙◌, length-set}
use Rattle.fsb_signal.specs.Table.{table}
use Rattle.vcd_grammar.specs.Levels.{level_of}
use Rattle.vcd_way.specs.Events.{settled_digits}
use Rattle.vcd_course.specs.Told.{rows_told}
use Rattle.vcd_course.proofs.SettleFacts.{take-settled}
use Rattle.vcd_course.proofs.RowFacts.{set_values, set_says, values_at, width_in}
use Rattle.vcd_course.proofs.lines.Rows.settle_line.Goals as goal

pub returns : goal.returns
returns c =
    let i = c.args.line in
    let old = c.args.self.now in
    let before = c.args.before.now in
    let after = c.args.after.now in
    let w = width_in table i in
    set_values table old.rows i c.settle_row-row.result old.long
    ∙ ap (set (rows_told old) i)
    (ap (take w) c.settle_row-row.ensures ∙ take-settled w (get_or before.rows i []) (get_or after.rows i [])
    ∙ (λ j. settled_digits (sym (values_at table before.rows i before.long) j)
    (sym (values_at table after.rows i after.long) j)))

pub invariant_of-self : goal.invariant_of-self
invariant_of-self c =
    let i = c.args.line in
    let old = c.args.self.now in
    let row = c.settle_row-row.result in
    record {
      long = length-set old.rows i row ∙ old.long;
      says = set_says old.rows old.levels i row c.level_of_row.result old.long old.says
          (c.level_of_row.ensures ∙ ap (λ n. level_of (take n row)) c.width_at-width.ensures.width);
    }
