use Rattle.std.proofs.Common.{◌≡◌, [], get_or, set, take, sym, ap, subst, ◌∙◌, length-set}
use Rattle.std.proofs.lemmas.List.{get_or-set_other}
use Rattle.fsb_signal.specs.Table.{table}
use Rattle.vcd_grammar.specs.Digits.{extended}
use Rattle.vcd_grammar.specs.Levels.{level_of}
use Rattle.vcd_way.specs.Events.{inverted_if, with_part}
use Rattle.vcd_course.specs.Told.{rows_told}
use Rattle.vcd_course.proofs.RowFacts.{set_values, set_says, values_at, width_in}
use Rattle.vcd_course.proofs.lines.Rows.set_bits.Goals as goal

pub returns-clause-told : goal.returns-clause-told
returns-clause-told c =
    let tap = c.args.tap.now in
    let old = c.args.self.now in
    let xs = inverted_if tap.inverted (extended tap.width c.args.digits.now) in
    let old_row = get_or old.rows tap.line [] in
    let row : take (width_in table tap.line) c.tapped.new.row
    ≡ with_part tap.part xs (take (width_in table tap.line) old_row) =
    subst (λ n. take n c.tapped.new.row ≡ with_part tap.part xs (take n old_row)) c.width_at-width.ensures.width
    c.tapped.ensures.row in
    set_values table old.rows tap.line c.tapped.new.row old.long
    ∙ ap (set (rows_told old) tap.line)
    (row ∙ ap (with_part tap.part xs) (sym (values_at table old.rows tap.line old.long)))

pub returns-clause-rest : goal.returns-clause-rest
returns-clause-rest c line other =
    get_or-set_other c.args.self.now.rows c.args.tap.now.line line c.tapped.new.row [] other

pub invariant_of-self : goal.invariant_of-self
invariant_of-self c =
    let i = c.args.tap.now.line in
    let old = c.args.self.now in
    let row = c.tapped.new.row in
    record {
      long = length-set old.rows i row ∙ old.long;
      says = set_says old.rows old.levels i row c.tapped.result old.long old.says
          (c.tapped.ensures.level ∙ ap (λ n. level_of (take n row)) c.width_at-width.ensures.width);
    }
