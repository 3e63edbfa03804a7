-- What has no level, in the reasons of rules 1 and 17.
use Rattle.std.specs.Prelude.{ℕ, Bool, ◌==◌, List, map, filter, codes}
use Rattle.std.specs.Int.RustNames.{bit_and}
use Rattle.serde_json.specs.Data.{Data, string, array, Members, put}
use Rattle.serde_json.specs.View.{items_of}
use Rattle.fsb_signal.specs.declared.lines.Lines.{Lines}
use Rattle.fsb_signal.specs.ControlLines.{line_names}
use Rattle.fsb_reasons.specs.declared.reason.Reason.{Reason}
use Rattle.fsb_reasons.specs.declared.reason.Reason.TheVariants.{UnknownLines, UnknownData}
use Rattle.reason_facts.specs.Values.{with_count}

-- the control line of this row of the table is among these
abbrev pub is_among : Lines → (List ℕ × ℕ) → Bool
is_among lines row = bit_and lines.0 row.1 == row.1

-- the names of those control lines of these rows that are among the lines
abbrev pub names_in : Lines → List (List ℕ × ℕ) → List Data
names_in lines rows = map (λ row. string row.0) (filter (is_among lines) rows)

-- the names of the control lines, in the order of the table
abbrev pub names_data : Lines → Data
names_data lines = array (items_of (names_in lines line_names))

-- the reasons of rules 1 and 17: the control lines without a level, and the bits of D, as a number
unfoldable pub unknown_facts : Reason → Members → Members
unknown_facts (UnknownLines lines) ms = put (codes "lines") (names_data lines) ms
unknown_facts (UnknownData bits) ms = with_count (codes "bits") bits ms
unknown_facts _ ms = ms
