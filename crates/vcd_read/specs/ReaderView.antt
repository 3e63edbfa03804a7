-- What the reader's own state stands for.
use Rattle.std.specs.Prelude.{ℕ, Bool, true, false, List}
use Rattle.vcd_grammar.specs.Judging.{Known, Draft as DraftView, Mode as ModeView, Header as in_header, Variable as in_variable, Skipped as in_skipped, Closing as in_closing, Values as in_values, Pending as in_pending, Beside as in_beside, Passed as in_passed}
use Rattle.vcd_read.specs.declared.mode.Draft.{Draft}
use Rattle.vcd_read.specs.declared.mode.Mode.{Mode}
use Rattle.vcd_read.specs.declared.mode.Mode.TheVariants as modes
use Rattle.vcd_read.specs.declared.machine.Machine.{Machine}
use Rattle.vcd_read.specs.Lines.{OpenLines}

-- a declaration so far, with the code that is kept beside it
abbrev pub draft_of : Draft → List ℕ → DraftView
draft_of d code = record {
  place = d.place;
  count = d.count;
  is_line = d.is_line;
  width = d.width;
  code = code;
  line = d.line;
}

-- where the next token stands
abbrev pub mode_of : Mode → List ℕ → List ℕ → ModeView
mode_of modes.Header code digits = in_header
mode_of (modes.Variable d) code digits = in_variable (draft_of d code)
mode_of modes.Skipped code digits = in_skipped
mode_of (modes.Closing place) code digits = in_closing place
mode_of modes.Values code digits = in_values
mode_of (modes.Pending place) code digits = in_pending place digits
mode_of modes.Beside code digits = in_beside
mode_of modes.Passed code digits = in_passed

-- the next token stands in the declaration of a variable
abbrev pub is_declaring : Mode → Bool
is_declaring modes.Header = false
is_declaring (modes.Variable d) = true
is_declaring modes.Skipped = false
is_declaring (modes.Closing place) = false
is_declaring modes.Values = false
is_declaring (modes.Pending place) = false
is_declaring modes.Beside = false
is_declaring modes.Passed = false

-- what is known behind the tokens so far
abbrev pub known_of : Machine → Known
known_of m = record {
  fault = m.fault;
  mode = mode_of m.mode m.code.items m.digits.items;
  lines = m.lines.items;
  codes = m.codes;
  time = m.time;
}

-- the block that stands open, and how many samples were decided
abbrev pub lines_view : Machine → OpenLines
lines_view m = record { block = m.block; decided = m.decided }
