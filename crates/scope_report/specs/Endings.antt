-- How a command ends.
use Rattle.std.specs.Prelude.{ℕ, nat_lt, if◌then◌else◌, List, [], ◌∷◌}
use Rattle.scope_check.specs.declared.finding.Verdict.{Verdict}
use Rattle.scope_check.specs.declared.finding.Verdict.TheVariants as verdicts
use Rattle.scope_parts.specs.declared.finding.PartFound.{PartFound}
use Rattle.scope_parts.specs.declared.finding.PartsFound.{PartsFound}
use Rattle.scope_report.specs.declared.ending.Ending.{Ending}
use Rattle.scope_report.specs.declared.ending.Ending.TheVariants as endings

-- the exit status
abbrev pub status_of : Ending → ℕ
status_of endings.Clean = 0
status_of endings.Broken = 1
status_of endings.BadWords = 2
status_of endings.Unjudged = 3
status_of endings.Failed = 4
status_of endings.NoMemory = 5

-- the verdict on so many judged clocks, none of them in a broken part
abbrev pub verdict_after : ℕ → Verdict
verdict_after judged = if nat_lt 0 judged then verdicts.Accepted else verdicts.Nothing

-- the verdict on parts, of which these are broken: that of the first one
abbrev pub first_verdict : List PartFound → ℕ → Verdict
first_verdict [] judged = verdict_after judged
first_verdict (fault ∷ faults) judged = fault.verdict

-- the verdict on all parts of a dump
abbrev pub verdict_over : PartsFound → Verdict
verdict_over f = first_verdict f.faults.items f.judged

-- how a command ends that has judged a dump: it is clean exactly where a clock was judged and no rule is broken
abbrev pub ending_after : Verdict → Ending
ending_after verdicts.Nothing = endings.Unjudged
ending_after verdicts.Accepted = endings.Clean
ending_after (verdicts.Broken clock rule stamp) = endings.Broken
