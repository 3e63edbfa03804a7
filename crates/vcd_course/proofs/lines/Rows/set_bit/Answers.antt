use Rattle.std.proofs.Common.{◌≡◌, [], set, take, ap, sym, ◌∙◌, length-set}
use Rattle.std.proofs.lemmas.List.{get_or-set_other}
use Rattle.fsb_signal.specs.Table.{table}
use Rattle.vcd_grammar.specs.Digits.{extended}
use Rattle.vcd_grammar.specs.Levels.{level_of}
use Rattle.vcd_way.specs.Events.{inverted_if, with_part, digits_at}
use Rattle.vcd_course.specs.Told.{rows_told}
use Rattle.vcd_course.proofs.DigitFacts.{length_inverted, length_extended}
use Rattle.vcd_course.proofs.RowFacts.{set_values, set_says, width_in}
use Rattle.vcd_course.proofs.TappedFacts.{whole_width, only_digit}
use Rattle.vcd_course.proofs.lines.Rows.set_bit.Goals as goal

pub returns-clause-told : goal.returns-clause-told
returns-clause-told c =
    let tap = c.args.tap.now in
    let old = c.args.self.now in
    let digit = c.tap_digit-digit.result in
    let xs = inverted_if tap.inverted (extended tap.width c.args.digits.now) in
    let one : width_in table tap.line ≡ 1 =
    sym (whole_width tap c.requires.lawful c.requires.whole) ∙ c.requires.one in
    let long = length_inverted tap.inverted (extended tap.width c.args.digits.now)
    ∙ length_extended tap.width c.args.digits.now c.requires.fits ∙ c.requires.one in
    let row : take (width_in table tap.line) c.put_first.new.row ≡ xs =
    ap (λ n. take n c.put_first.new.row) one ∙ c.put_first.ensures
    ∙ only_digit xs digit long c.tap_digit-digit.ensures in
    set_values table old.rows tap.line c.put_first.new.row old.long
    ∙ ap (set (rows_told old) tap.line)
    (row ∙ ap (λ p. with_part p xs (digits_at (rows_told old) tap.line)) (sym c.requires.whole))

pub returns-clause-rest : goal.returns-clause-rest
returns-clause-rest c line other =
    get_or-set_other c.args.self.now.rows c.args.tap.now.line line
    c.put_first.new.row [] other

pub invariant_of-self : goal.invariant_of-self
invariant_of-self c =
    let tap = c.args.tap.now in
    let i = tap.line in
    let old = c.args.self.now in
    let digit = c.tap_digit-digit.result in
    let row = c.put_first.new.row in
    let one : width_in table i ≡ 1 =
    sym (whole_width tap c.requires.lawful c.requires.whole) ∙ c.requires.one in
    record {
      long = length-set old.rows i row ∙ old.long;
      says = set_says old.rows old.levels i row c.level_of_digit.result old.long old.says
          (c.level_of_digit.ensures
          ∙ ap level_of (sym (ap (λ n. take n row) one ∙ c.put_first.ensures)));
    }
