-- The table of the requests of a trace.
use Rattle.std.specs.Prelude.{ℕ, Option, Some, None, List, ◌++◌, take}
use Rattle.fsb_signal.specs.declared.marks.Marks.{Marks}
use Rattle.fsb_trace.specs.At.{Trace}
use Rattle.fsb_trace.specs.Verdict.{verdict}
use Rattle.fsb_recent.specs.Over.{flight_of, over_of}
use Rattle.row_texts.specs.declared.line.Form.{Form}
use Rattle.row_texts.specs.Lines.{head_text, lines_text}

-- the samples before the clock of a verdict; all where there is none
unfoldable pub before_verdict : Option (ℕ × ℕ) → Trace → Trace
before_verdict None w = w
before_verdict (Some p) w = take p.0 w

-- the samples before the first one with which a phase rule is broken
abbrev pub sound_part : Marks → Trace → Trace
sound_part m w = before_verdict (verdict m w) w

-- the line of the names, and a line for each request that is over in the sound part, in the order in which they were over. So
-- many clocks of the dump come before
abbrev pub over_text : Form → ℕ → Marks → Trace → List ℕ
over_text form before m w = head_text form ++ lines_text form before (over_of (sound_part m w))

-- behind them those of the requests that are in flight at the end of these samples
abbrev pub table_text : Form → ℕ → Marks → Trace → List ℕ
table_text form before m w = over_text form before m w ++ lines_text form before (flight_of (sound_part m w))
