-- The marks, as bytes come and as they end.
use Rattle.std.proofs.Common.{◌≡◌, ℕ, Bool, true, false, List, Option, Some, None, if◌then◌else◌, ap, ◌∙◌}
use Rattle.fsb_signal.specs.declared.marks.Marks.{Marks}
use Rattle.vcd_grammar.specs.Tokens.{tokens_so_far, tokens_of}
use Rattle.vcd_grammar.specs.Judging.{Known, nothing, behind, known_marks, marks_of_lines}
use Rattle.vcd_grammar.specs.Reading.{marks_of, marks_so_far}
use Rattle.vcd_grammar.specs.declared.fault.VcdFault.{VcdFault}
use Rattle.vcd_read.specs.declared.scan.Scan.{Scan}
use Rattle.vcd_read.specs.declared.stop.VcdStop.TheVariants as stops
use Rattle.vcd_read.specs.ReaderView.{known_of}
use Rattle.vcd_read.specs.Taking.{Taken, untaken}
use Rattle.vcd_read.specs.Scanning.{reading, ended_taken}
use Rattle.vcd_read.specs.Standing.{Scanned}
use Rattle.vcd_read.specs.Answers.{fault_or, result_of, TellsMarks}
use Rattle.vcd_read.proofs.Law.{known_behind}
use Rattle.vcd_read.proofs.Endings.{ended_is}

-- those that the bytes fed show
pub scanned_marks : (s : Scan) (fed : List ℕ) → Scanned s fed → known_marks (known_of s.machine) ≡ marks_so_far fed
unfolding marks_so_far
scanned_marks s fed h = ap (λ (t : Taken). known_marks t.known) h.machine
    ∙ ap known_marks (known_behind untaken (tokens_so_far fed))

-- the lines that were declared, where the text ends
pub ended_lines : (s : Scan) (fed : List ℕ) → Scanned s fed
    → (ended_taken (reading s)).known.lines ≡ (behind nothing (tokens_of fed)).lines
ended_lines s fed h = ap (λ (t : Taken). t.known.lines) (ended_is s fed h)
    ∙ ap (λ (k : Known). k.lines) (known_behind untaken (tokens_of fed))

-- those of a whole text
pub whole_marks : (text lines : List ℕ) (marks : Marks) → lines ≡ (behind nothing (tokens_of text)).lines
    → marks ≡ marks_of_lines lines → marks ≡ marks_of text
unfolding marks_of
whole_marks text lines marks h is = is ∙ ap marks_of_lines h

-- a piece that is read to its end tells them, whether or not it is refused
pub told_by : (many : Bool) (fault : Option VcdFault) (fed old new : Option Marks) → new ≡ fed
    → TellsMarks (result_of (if many then Some stops.TooLong else fault_or fault None)) fed old new
told_by true fault fed old new h = h
told_by false None fed old new h = h
told_by false (Some fault) fed old new h = h
