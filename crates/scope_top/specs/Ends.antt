-- How a command ends.
use Rattle.std.specs.Prelude.{ℕ, Bool, ◌&&◌, nat_lt, ◌==◌, if◌then◌else◌, Option, Some, None, Result, Ok, Err}
use Rattle.scope_report.specs.declared.ending.Ending.{Ending}
use Rattle.scope_report.specs.declared.ending.Ending.TheVariants as endings
use Rattle.scope_report.specs.Endings.{ending_after, verdict_over}
use Rattle.scope_wiring.specs.declared.wiring.Picking.{Picking}
use Rattle.scope_wiring.specs.declared.wiring.Picking.TheVariants as pickings
use Rattle.scope_watch.specs.declared.check.Finding.{Finding}
use Rattle.scope_watch.specs.declared.check.Finding.TheVariants as findings
use Rattle.scope_copy.specs.declared.copy.CopyFinding.{CopyFinding}
use Rattle.scope_copy.specs.declared.copy.CopyFinding.TheVariants as copies
use Rattle.scope_table.specs.declared.answer.TableFinding.{TableFinding}
use Rattle.scope_table.specs.declared.answer.TableFinding.TheVariants as tables
use Rattle.scope_table.specs.declared.answer.TabledPart.{TabledPart}
use Rattle.scope_coherence.specs.declared.answer.CoherenceFinding.{CoherenceFinding}
use Rattle.scope_coherence.specs.declared.answer.CoherenceFinding.TheVariants as coherences
use Rattle.scope_coherence.specs.declared.cohering.Incoherent.{Incoherent}
use Rattle.fsb_rules.specs.declared.broken.Broken.{Broken}
use Rattle.scope_top.specs.declared.stop.Ended.{Ended}
use Rattle.scope_top.specs.declared.stop.Stop.{Stop}
use Rattle.scope_top.specs.declared.stop.Stop.TheVariants as stops
use Rattle.scope_top.specs.declared.stop.ViewStop.{ViewStop}
use Rattle.scope_top.specs.declared.stop.ViewStop.TheVariants as views

-- how a check ends that found this
abbrev pub ending_found : Finding → Ending
ending_found (findings.Refused refusal) = endings.Unjudged
ending_found (findings.Judged wiring told) = ending_after (verdict_over told.judged)

-- how a copy ends that found this: clean where a clock was written
abbrev pub ending_copied : CopyFinding → Ending
ending_copied (copies.Refused refusal) = endings.Unjudged
ending_copied (copies.Copied wiring told) = if told.clocks == 0 then endings.Unjudged else endings.Clean

-- how the table of a part of so many clocks ends, in which this phase rule is broken first, if one is: it is clean exactly
-- where it has a clock and no rule is broken
abbrev pub ending_over : ℕ → Option Broken → Ending
ending_over clocks None = if clocks == 0 then endings.Unjudged else endings.Clean
ending_over clocks (Some b) = endings.Broken

-- how a table ends that was written so
abbrev pub ending_tabled : TableFinding → Ending
ending_tabled (tables.Refused refusal) = endings.Unjudged
ending_tabled (tables.Tabled wiring told) = ending_over told.clocks told.found

-- how a part of so many clocks ends, in which this rule is broken first, if one is: it is clean exactly where it has a clock
-- and no rule is broken. Who had the bus before a part that begins later is not known: it is not judged behind a phase rule
abbrev pub ending_with : ℕ → Bool → Option Incoherent → Ending
ending_with judged is_later None = if judged == 0 then endings.Unjudged else endings.Clean
ending_with judged is_later (Some b) = if is_later && nat_lt b.rule 21 then endings.Unjudged else endings.Broken

-- how the judging of coherence ends that found this
abbrev pub ending_cohered : CoherenceFinding → Ending
ending_cohered (coherences.Refused refusal) = endings.Unjudged
ending_cohered (coherences.Judged wiring told) = ending_with told.judged told.is_later told.found

-- how `lines` ends that picks these wires, or refuses them
abbrev pub ending_picked : Picking → Ending
ending_picked (pickings.Wired wiring) = endings.Clean
ending_picked (pickings.Refused refusal) = endings.Unjudged

-- how the program ends that has told what it found: a file that is not written takes its place
abbrev pub ending_shown : {U : Type 0} → Result U ViewStop → Ending → Ending
ending_shown (Ok u) ending = ending
ending_shown (Err views.Memory) ending = endings.NoMemory
ending_shown (Err views.Dump) ending = endings.Failed
ending_shown (Err views.Save) ending = endings.Failed
ending_shown (Err views.Cut) ending = endings.Failed
ending_shown (Err views.Changed) ending = endings.Failed

-- how the program ends
abbrev pub ending_at : Result Ended Stop → Ending
ending_at (Ok ended) = ending_shown ended.shown ended.ending
ending_at (Err stops.Memory) = endings.NoMemory
ending_at (Err stops.Lines) = endings.Failed
ending_at (Err stops.Dump) = endings.Failed
ending_at (Err stops.Out) = endings.Failed
