-- The exit status of each way in which a call may end, and what is printed of it.
use Rattle.std.specs.Prelude.{ℕ, List, [], ◌++◌, codes, slice_get}
use Rattle.std.specs.Option.{option_map_or}
use Rattle.std.specs.Fmt.{decimal}
use Rattle.fsb_audit_dump.specs.AuditText.{foul_text}
use Rattle.fsb_report.specs.VerdictText.{rejected_text}
use Rattle.fsb_script.specs.declared.fault.Cause.{Cause}
use Rattle.fsb_script.specs.declared.fault.Cause.TheVariants.{FirstLine, Word, Number, Range, Align, Outside, LockConflict, LockSize, Missing, After}
use Rattle.fsb_signal.specs.Table.{table}
use Rattle.vcd_grammar.specs.declared.fault.VcdCause.{VcdCause}
use Rattle.vcd_grammar.specs.declared.fault.VcdCause.TheVariants as causes
use Rattle.fsb_top.specs.declared.status.Status.{Status}
use Rattle.fsb_top.specs.declared.status.Status.TheVariants.{Done, Rejected, BadWords, BadBench, BadDump, ReadFault, WriteFault, DumpFault, OutOfMemory, TooLong, Foul, NotFound}

-- the exit status
abbrev pub code_of : Status → ℕ
code_of Done = 0
code_of (Rejected broken) = 1
code_of BadWords = 2
code_of (BadBench fault) = 3
code_of (BadDump fault) = 4
code_of ReadFault = 5
code_of WriteFault = 6
code_of DumpFault = 7
code_of OutOfMemory = 8
code_of TooLong = 9
code_of (Foul foul) = 10
code_of NotFound = 11

-- the printed name of a cause
abbrev pub cause_name : Cause → List ℕ
cause_name FirstLine = codes "FirstLine"
cause_name Word = codes "Word"
cause_name Number = codes "Number"
cause_name Range = codes "Range"
cause_name Align = codes "Align"
cause_name Outside = codes "Outside"
cause_name LockConflict = codes "LockConflict"
cause_name LockSize = codes "LockSize"
cause_name Missing = codes "Missing"
cause_name After = codes "After"

-- the name of the line of this number in the signal table; of a number that has no line, the number
abbrev pub line_name : ℕ → List ℕ
line_name number = option_map_or (λ e. e.name) (slice_get table number) (decimal number)

-- the printed cause of the first fault of a dump
abbrev pub dump_cause_text : VcdCause → List ℕ
dump_cause_text causes.Token = codes "Token"
dump_cause_text causes.Header = codes "Header"
dump_cause_text causes.Code = codes "Code"
dump_cause_text causes.Width = codes "Width"
dump_cause_text causes.TimeBack = codes "TimeBack"
dump_cause_text (causes.Missing number) = codes "Missing " ++ line_name number
dump_cause_text causes.Cut = codes "Cut"

-- the line on standard error, without its line feed; after Done there is none
abbrev pub status_text : Status → List ℕ
status_text Done = []
status_text (Rejected broken) = rejected_text broken
status_text BadWords = codes "bad words"
status_text (BadBench fault) = codes "bench line " ++ decimal fault.line ++ codes ": " ++ cause_name fault.cause
status_text (BadDump fault) =
    codes "dump byte " ++ decimal fault.place ++ codes ": " ++ dump_cause_text fault.cause
status_text ReadFault = codes "read fault"
status_text WriteFault = codes "write fault"
status_text DumpFault = codes "dump fault"
status_text OutOfMemory = codes "out of memory"
status_text TooLong = codes "too long"
status_text (Foul foul) = foul_text foul
status_text NotFound = codes "not found"
