-- The text of a verdict.
use Rattle.std.specs.Prelude.{ℕ, List, ◌++◌, Option, Some, None, codes, length}
use Rattle.std.specs.Fmt.{decimal}
use Rattle.fsb_signal.specs.declared.marks.Marks.{Marks}
use Rattle.fsb_signal.specs.declared.sample.Sample.{Sample}
use Rattle.fsb_trace.specs.Verdict.{verdict}
use Rattle.fsb_rules.specs.Checker.{as_broken}
use Rattle.fsb_rules.specs.declared.broken.Broken.{Broken}

-- a broken rule: `rejected clock=<clock> rule=<rule>`
abbrev pub rejected_text : Broken → List ℕ
rejected_text broken = codes "rejected clock=" ++ decimal broken.clock ++ codes " rule=" ++ decimal broken.rule

-- the line of the verdict on a trace of so many clocks: `accepted clocks=<clocks>` where no rule is broken, else that of
-- the broken rule
abbrev pub verdict_text : ℕ → Option Broken → List ℕ
verdict_text clocks None = codes "accepted clocks=" ++ decimal clocks ++ codes "\n"
verdict_text clocks (Some broken) = rejected_text broken ++ codes "\n"

-- the line of the verdict on a trace, of a dump with these marks
abbrev pub trace_text : Marks → List Sample → List ℕ
trace_text marks w = verdict_text (length w) (as_broken (verdict marks w))
