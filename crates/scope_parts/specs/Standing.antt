-- What a judge of parts has judged.
use Rattle.std.specs.Prelude.{◌≡◌, ◌≤◌, ℕ, ◌-◌, Option, List, ◌++◌, length, take, filter}
use Rattle.fsb_signal.specs.declared.marks.Marks.{Marks}
use Rattle.vcd_way.specs.Events.{DumpEvent}
use Rattle.vcd_course.specs.Told.{last_told}
use Rattle.scope_check.specs.declared.finding.Judged.{Judged}
use Rattle.scope_check.specs.declared.finding.Verdict.{Verdict}
use Rattle.scope_check.specs.declared.finding.Verdict.TheVariants.{Nothing, Accepted, Broken}
use Rattle.scope_check.specs.declared.part.Part.{Part}
use Rattle.scope_check.specs.Findings.{IsFoundIn}
use Rattle.scope_check.specs.Parts.{clocks_of}
use Rattle.scope_check.specs.Standing.{Stands as JudgingStands}
use Rattle.scope_parts.specs.declared.counts.Counts.{Counts}
use Rattle.scope_parts.specs.declared.finding.End.{End}
use Rattle.scope_parts.specs.declared.finding.End.TheVariants as ends
use Rattle.scope_parts.specs.declared.finding.PartFound.{PartFound}
use Rattle.scope_parts.specs.declared.kept.Kept.{Kept}
use Rattle.scope_parts.specs.declared.tally.Tally.{Tally}
use Rattle.scope_parts.specs.declared.latest.Latest.{Latest}
use Rattle.scope_parts.specs.declared.judge.PartsJudge.{PartsJudge}
use Rattle.scope_parts.specs.declared.plan.Plan.{Plan}
use Rattle.scope_parts.specs.Segments.{Segment, clocks_in, events_in, next_part, parts_in, judged_in, is_fault}
use Rattle.scope_parts.specs.Holes.{holes_in, first_hole_in}
use Rattle.scope_parts.specs.Findings.{EachBehind, GoesOn, IsOver, fault_among}

-- the clocks and the holes of these events
pub record Counted (c : Counts) (events : List DumpEvent) : Type 0 where
  pub clocks : c.clocks ≡ clocks_of events
  pub holes : c.holes ≡ holes_in events
  pub first_hole : last_told c.first_hole ≡ first_hole_in events

-- these parts, in order: how many there are, and the first sixteen; the same of those that are broken
pub record Keeps (k : Kept) (parts : List PartFound) : Type 0 where
  pub parts_are : k.parts ≡ length parts
  pub broken : k.broken ≡ length (filter is_fault parts)
  pub first : k.first.items ≡ take 16 parts
  pub faults : k.faults.items ≡ take 16 (filter is_fault parts)

-- the sums of these segments
pub record Tallies (t : Tally) (ss : List Segment) : Type 0 where
  pub clocks : t.clocks ≡ clocks_in ss
  pub judged : t.judged ≡ judged_in ss
  pub kept : Keeps t.kept (parts_in ss)

-- the clock of a verdict, where a rule is broken
abbrev pub clock_in : Verdict → ℕ
clock_in Nothing = 0
clock_in Accepted = 0
clock_in (Broken clock rule stamp) = clock

-- the clocks that were found are among so many
pub record IsWithin (f : Judged) (clocks : ℕ) : Type 0 where
  pub start : f.start ≤ clocks
  pub judged : f.judged ≤ clocks
  pub broken : clock_in f.verdict ≤ clocks

-- what is judged of a segment that ends so: up to its end, or before a reply
abbrev pub kept_at : End → Judged → Judged → Judged
kept_at ends.Dump found before = found
kept_at ends.Hole found before = found
kept_at ends.Broken found before = found
kept_at ends.Reply found before = before

-- all of the events but the last one
abbrev pub but_last : List DumpEvent → List DumpEvent
but_last es = take (length es - 1) es

-- what was found of these events, and of all but the last one
pub record Remembers (l : Latest) (p : Part) (marks : Marks) (es : List DumpEvent) : Type 0 where
  pub found : IsFoundIn l.found p marks es
  pub before : IsFoundIn l.before p marks (but_last es)

-- the judge was made with these marks and this plan, and took these events: some segments are over, and one is open
pub record Stands (j : PartsJudge) (plan : Plan) (marks : Marks) (events : List DumpEvent) : Type 0 where
  pub segments : List Segment
  pub open_events : List DumpEvent
  pub planned : j.plan ≡ plan
  pub marked : j.marks ≡ marks
  pub whole : events ≡ events_in segments ++ open_events
  pub over : EachBehind (IsOver plan marks) segments
  pub unended : EachBehind (GoesOn plan marks segments) open_events
  pub judging : JudgingStands j.judging (next_part plan segments) marks open_events
  pub latest : Remembers j.latest (next_part plan segments) marks open_events
  pub tallied : Tallies j.tally segments
  pub counted : Counted j.counts events

-- the first broken clock that the judge has found, if there is one
abbrev pub fault_of : PartsJudge → Option ℕ
fault_of j = fault_among j.tally.kept.faults.items j.tally.clocks j.latest.found.verdict
