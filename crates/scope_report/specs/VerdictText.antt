-- The line of a verdict.
use Rattle.std.specs.Prelude.{ℕ, List, [], ◌++◌, Option, Some, None, codes}
use Rattle.std.specs.Fmt.{decimal}
use Rattle.vcd_course.specs.declared.event.Stamp.{Stamp}
use Rattle.scope_check.specs.declared.finding.Verdict.{Verdict}
use Rattle.scope_check.specs.declared.finding.Verdict.TheVariants as verdicts
use Rattle.scope_parts.specs.declared.finding.PartsFound.{PartsFound}
use Rattle.scope_report.specs.Endings.{verdict_over}

-- where a stamp stands, behind its time: `, <time> (line <line> of the file)`; nothing where there is none
abbrev pub place_text : List ℕ → Option Stamp → List ℕ
place_text time None = []
place_text time (Some stamp) =
    codes ", " ++ time ++ codes " (line " ++ decimal stamp.line ++ codes " of the file)"

-- a broken clock: `rejected at clock <clock>, <time> (line <line> of the file)`
abbrev pub clock_text : ℕ → List ℕ → Option Stamp → List ℕ
clock_text clock time stamp = codes "rejected at clock " ++ decimal clock ++ place_text time stamp

-- a broken rule: `: rule <rule>, <title>`
abbrev pub rule_text : ℕ → List ℕ → List ℕ
rule_text rule title = codes ": rule " ++ decimal rule ++ codes ", " ++ title

-- what is broken, and where
abbrev pub broken_text : ℕ → List ℕ → Option Stamp → ℕ → List ℕ → List ℕ
broken_text clock time stamp rule title = clock_text clock time stamp ++ rule_text rule title

-- a verdict on so many judged clocks, where the time of the broken clock and the title of the rule have these texts:
-- `accepted: <judged> of <clocks> clocks judged`, or
-- `rejected at clock <clock>, <time> (line <line> of the file): rule <rule>, <title>`
abbrev pub verdict_in : ℕ → ℕ → List ℕ → List ℕ → Verdict → List ℕ
verdict_in judged clocks time title verdicts.Nothing = codes "nothing could be judged"
verdict_in judged clocks time title verdicts.Accepted =
    codes "accepted: " ++ decimal judged ++ codes " of " ++ decimal clocks ++ codes " clocks judged"
verdict_in judged clocks time title (verdicts.Broken clock rule stamp) =
    broken_text clock time stamp rule title

-- the verdict on all parts of a dump
unfoldable pub verdict_text : PartsFound → List ℕ → List ℕ → List ℕ
verdict_text f time title = verdict_in f.judged f.clocks time title (verdict_over f)
