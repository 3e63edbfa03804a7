-- The segments of a dump, one after another, and what is judged of each.
use Rattle.std.specs.Prelude.{ℕ, ◌+◌, Bool, true, false, nat_lt, if◌then◌else◌, List, [], ◌∷◌, ◌++◌, filter}
use Rattle.vcd_way.specs.Events.{DumpEvent}
use Rattle.scope_check.specs.declared.finding.Judged.{Judged}
use Rattle.scope_check.specs.declared.finding.Verdict.{Verdict}
use Rattle.scope_check.specs.declared.finding.Verdict.TheVariants.{Nothing, Accepted, Broken}
use Rattle.scope_check.specs.declared.part.Part.{Part}
use Rattle.scope_check.specs.Parts.{clocks_of}
use Rattle.scope_parts.specs.declared.finding.End.{End}
use Rattle.scope_parts.specs.declared.finding.End.TheVariants as ends
use Rattle.scope_parts.specs.declared.finding.PartFound.{PartFound}
use Rattle.scope_parts.specs.declared.plan.Plan.{Plan}
use Rattle.scope_parts.specs.Plans.{later_part}

-- a segment: the events that are judged, the two clocks of the reply before which the part ends (else none), what is found,
-- and why its part ended
pub record Segment : Type 0 where
  pub events : List DumpEvent
  pub reply : List DumpEvent
  pub found : Judged
  pub end : End

-- all events of a segment
abbrev pub all_of : Segment → List DumpEvent
all_of s = s.events ++ s.reply

-- all events of some segments, one after another
abbrev pub events_in : List Segment → List DumpEvent
events_in [] = []
events_in (s ∷ ss) = all_of s ++ events_in ss

-- how many clocks some segments have
abbrev pub clocks_in : List Segment → ℕ
clocks_in ss = clocks_of (events_in ss)

-- what is judged of the segment behind these: of the first one what is asked for, of another one from its first quiet clock on
abbrev pub next_part : Plan → List Segment → Part
next_part plan [] = plan.first
next_part plan (s ∷ ss) = later_part plan (clocks_in (s ∷ ss))

-- a verdict on clocks behind so many others: its clock is numbered as those of the dump
abbrev pub shifted : ℕ → Verdict → Verdict
shifted base Nothing = Nothing
shifted base Accepted = Accepted
shifted base (Broken clock rule stamp) = Broken (base + clock) rule stamp

-- what was found of a segment behind so many clocks, and why its part ended, as it is told
abbrev pub part_told : ℕ → Judged → End → PartFound
part_told base f end = record {
  start = base + f.start;
  judged = f.judged;
  is_later = f.is_later;
  verdict = shifted base f.verdict;
  end = end;
}

-- the part of it, where it has a judged clock
abbrev pub told_if_judged : ℕ → Judged → End → List PartFound
told_if_judged base f end = if nat_lt 0 f.judged then part_told base f end ∷ [] else []

-- the parts of segments behind so many clocks that have a judged clock
abbrev pub parts_behind : ℕ → List Segment → List PartFound
parts_behind base [] = []
parts_behind base (s ∷ ss) = told_if_judged base s.found s.end ++ parts_behind (base + clocks_of (all_of s)) ss

-- the parts of a dump that have a judged clock
abbrev pub parts_in : List Segment → List PartFound
parts_in ss = parts_behind 0 ss

-- the part ended with a broken rule
abbrev pub is_broken : End → Bool
is_broken ends.Dump = false
is_broken ends.Hole = false
is_broken ends.Broken = true
is_broken ends.Reply = false

-- a part that ended with a broken rule
abbrev pub is_fault : PartFound → Bool
is_fault p = is_broken p.end

-- those of the parts that ended with a broken rule
abbrev pub faults_in : List Segment → List PartFound
faults_in ss = filter is_fault (parts_in ss)

-- how many clocks are judged in some segments
abbrev pub judged_in : List Segment → ℕ
judged_in [] = 0
judged_in (s ∷ ss) = s.found.judged + judged_in ss
