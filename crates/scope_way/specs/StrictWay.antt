-- What a strict header has throughout.
use Rattle.std.specs.Prelude.{ℕ, Bool, ◌&&◌, List}
use Rattle.std.specs.List.{list_all}
use Rattle.vcd_grammar.specs.Codes.{Code}
use Rattle.vcd_grammar.specs.Judging.{is_declared}
use Rattle.vcd_way.specs.Strict.{StrictHeader}
use Rattle.vcd_way.specs.Lawful.{is_line}

-- the line is of the table, and among those that were declared
abbrev pub is_kept_line : List ℕ → ℕ → Bool
is_kept_line lines number = is_line number && is_declared lines number

-- each line of the code is
abbrev pub is_kept_code : List ℕ → Code → Bool
is_kept_code lines c = list_all (is_kept_line lines) c.lines

-- all lines are of the table, and each code's were declared
abbrev pub holds_strictly : StrictHeader → Bool
holds_strictly h = list_all is_line h.lines && list_all (is_kept_code h.lines) h.codes
