-- The strict way: the first variable of each name of the signal table is that line, whatever its
-- scope, and has its width.
use Rattle.std.specs.Prelude.{ℕ, false, ◌||◌, ◌==◌, if◌then◌else◌, List, [], ◌∷◌, ◌++◌, map, Option, Some, None, option_map}
use Rattle.fsb_signal.specs.Table.{table, signal_number}
use Rattle.fsb_signal.specs.DumpText.{width_of}
use Rattle.fsb_signal.specs.declared.marks.Marks.{Marks}
use Rattle.vcd_grammar.specs.declared.fault.VcdCause.TheVariants as causes
use Rattle.vcd_grammar.specs.Digits.{is_value_digit}
use Rattle.vcd_grammar.specs.Words.{is_foreign_type, name_in}
use Rattle.vcd_grammar.specs.Codes.{Code, with_code, lines_of}
use Rattle.vcd_grammar.specs.Judging.{is_declared, missing_from, marks_of_lines}
use Rattle.vcd_way.specs.Declarations.{Declaration}
use Rattle.vcd_way.specs.declared.tap.Tap.{Tap}
use Rattle.vcd_way.specs.declared.tap.Edge.TheVariants as edges
use Rattle.vcd_way.specs.Ways.{Kept, Keeps, Refuses, ValueRules, Way}
use Rattle.vcd_way.specs.Events.{whole}

-- the lines and the codes that were declared
pub record StrictHeader : Type 0 where
  pub lines : List ℕ
  pub codes : List Code

-- the digits of a dump
abbrev pub strict_digit : ℕ → Option ℕ
strict_digit b = if is_value_digit b then Some b else None

-- a variable that is no line
abbrev pub with_other : StrictHeader → List ℕ → Kept StrictHeader
with_other h code = Keeps (record h { codes = with_code h.codes code [] }) []

-- a line of this code, which is unknown until it gets a value
abbrev pub with_strict_line : StrictHeader → List ℕ → ℕ → Kept StrictHeader
with_strict_line h code number =
    Keeps (record { lines = h.lines ++ number ∷ []; codes = with_code h.codes code (number ∷ []) }) (number ∷ [])

-- a variable of a line's name is that line, where its type allows it and no earlier variable is; it
-- must have the line's width
abbrev pub strict_named : StrictHeader → Declaration → Option ℕ → Kept StrictHeader
strict_named h d None = with_other h d.code
strict_named h d (Some number) =
    if is_foreign_type d.kind || is_declared h.lines number then with_other h d.code
    else (if d.width == width_of number then with_strict_line h d.code number else Refuses causes.Width)

-- after a declaration
unfoldable pub strict_declares : StrictHeader → Declaration → Kept StrictHeader
strict_declares h d = strict_named h d (signal_number (name_in d.reference))

-- the end of the header, with the first needed line that is missing
abbrev pub strict_closed : StrictHeader → Option ℕ → Kept StrictHeader
strict_closed h None = Keeps h []
strict_closed h (Some number) = Refuses (causes.Missing number)

-- after the end of the header: each needed line must be declared
unfoldable pub strict_closes : StrictHeader → Kept StrictHeader
strict_closes h = strict_closed h (missing_from h.lines 0 table)

-- what a code stands for
abbrev pub strict_taps : StrictHeader → List ℕ → Option (List Tap)
strict_taps h code = option_map (map whole) (lines_of h.codes code)

-- the digits are 0, 1, x and z, the rising edge samples, holes are read past, and nothing else is
-- let pass
abbrev pub strict_rules : ValueRules
strict_rules = record {
  digit = strict_digit;
  takes_any = false;
  widest = 1000000;
  edge = edges.Rising;
  takes_first = false;
  late = [];
  skips_preface = false;
  tells_holes = false;
  ends_early = false;
}

-- the strict way
abbrev pub strict : Way StrictHeader
strict = record {
  start = record { lines = []; codes = [] };
  declares = strict_declares;
  closes = strict_closes;
  lines = λ h. h.lines;
  taps = strict_taps;
  rules = strict_rules;
}

-- the marks of a header: which of the two parity lines it declares
abbrev pub marks_by : StrictHeader → Marks
marks_by h = marks_of_lines h.lines
