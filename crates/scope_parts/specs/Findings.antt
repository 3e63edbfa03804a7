-- What is found of a dump, part by part.
use Rattle.std.specs.Prelude.{◌≡◌, ℕ, ◌+◌, if◌then◌else◌, List, [], ◌∷◌, ◌++◌, length, take, Option, Some, None}
use Rattle.fsb_signal.specs.declared.marks.Marks.{Marks}
use Rattle.vcd_way.specs.Events.{DumpEvent}
use Rattle.vcd_course.specs.Told.{last_told}
use Rattle.scope_check.specs.declared.finding.Judged.{Judged}
use Rattle.scope_check.specs.declared.finding.Verdict.{Verdict}
use Rattle.scope_check.specs.declared.finding.Verdict.TheVariants.{Nothing, Accepted, Broken}
use Rattle.scope_check.specs.Findings.{IsFoundIn}
use Rattle.scope_check.specs.Parts.{clocks_of}
use Rattle.scope_parts.specs.declared.finding.End.{End}
use Rattle.scope_parts.specs.declared.finding.End.TheVariants as ends
use Rattle.scope_parts.specs.declared.finding.PartFound.{PartFound}
use Rattle.scope_parts.specs.declared.finding.PartsFound.{PartsFound}
use Rattle.scope_parts.specs.declared.plan.Plan.{Plan}
use Rattle.scope_parts.specs.Segments.{Segment, all_of, events_in, next_part, parts_in, faults_in, judged_in, shifted}
use Rattle.scope_parts.specs.Endings.{ending, breaks_one}
use Rattle.scope_parts.specs.Holes.{holes_in, first_hole_in}

-- each of the items is so behind those before it
abbrev pub EachBehind : {A : Type 0} → (List A → A → Type 0) → List A → Type 0
EachBehind IsSo [] = Unit {0}
EachBehind IsSo (x ∷ xs) = IsSo [] x × EachBehind (λ ys. IsSo (x ∷ ys)) xs

-- the segment behind these does not end with this event: by what is found of its events up to there
pub record GoesOn (plan : Plan) (marks : Marks) (before : List Segment) (es : List DumpEvent) (e : DumpEvent) : Type 0 where
  pub found : Judged
  pub is_found : IsFoundIn found (next_part plan before) marks (es ++ e ∷ [])
  pub goes_on : ending plan (length (faults_in before)) found e ≡ None

-- how many clocks of a reply stand behind a part that ends so
abbrev pub reply_clocks : End → ℕ
reply_clocks ends.Dump = 0
reply_clocks ends.Hole = 0
reply_clocks ends.Broken = 0
reply_clocks ends.Reply = 2

-- the segment behind these is over: it ends with its last event, for this reason, and not with one before it. This is the
-- verdict on the part that is judged of its events; those of a reply are not judged
pub record IsOver (plan : Plan) (marks : Marks) (before : List Segment) (s : Segment) : Type 0 where
  pub es : List DumpEvent
  pub e : DumpEvent
  pub up_to : Judged
  pub whole : all_of s ≡ es ++ e ∷ []
  pub unended : EachBehind (GoesOn plan marks before) es
  pub is_up_to : IsFoundIn up_to (next_part plan before) marks (all_of s)
  pub ends : ending plan (length (faults_in before)) up_to e ≡ Some s.end
  pub reply : length s.reply ≡ reply_clocks s.end
  pub found : IsFoundIn s.found (next_part plan before) marks s.events

-- the last segment, behind these, has not ended when the dump ends
pub record IsLast (plan : Plan) (marks : Marks) (before : List Segment) (s : Segment) : Type 0 where
  pub unended : EachBehind (GoesOn plan marks before) s.events
  pub reply : s.reply ≡ []
  pub found : IsFoundIn s.found (next_part plan before) marks s.events
  pub end : s.end ≡ (if breaks_one s.found.verdict then ends.Broken else ends.Dump)

-- the numbers and the first parts of these segments
pub record Tells (f : PartsFound) (ss : List Segment) : Type 0 where
  pub judged : f.judged ≡ judged_in ss
  pub parts : f.parts ≡ length (parts_in ss)
  pub broken : f.broken ≡ length (faults_in ss)
  pub first : f.first.items ≡ take 16 (parts_in ss)
  pub faults : f.faults.items ≡ take 16 (faults_in ss)

-- this was found of the events of a dump with these marks, parted so: they are segments one after another, each behind the
-- end of the one before it, and of each one part is judged, by its own verdict
pub record IsJudgedInParts (f : PartsFound) (plan : Plan) (marks : Marks) (events : List DumpEvent) : Type 0 where
  pub segments : List Segment
  pub last : Segment
  pub whole : events ≡ events_in (segments ++ last ∷ [])
  pub over : EachBehind (IsOver plan marks) segments
  pub is_last : IsLast plan marks segments last
  pub asked : f.plan ≡ plan
  pub clocks : f.clocks ≡ clocks_of events
  pub tells : Tells f (segments ++ last ∷ [])
  pub holes : f.holes ≡ holes_in events
  pub first_hole : last_told f.first_hole ≡ first_hole_in events

-- the clock of a broken rule
abbrev pub broken_clock : Verdict → Option ℕ
broken_clock Nothing = None
broken_clock Accepted = None
broken_clock (Broken clock rule stamp) = Some clock

-- the clock of the first of these broken parts
abbrev pub first_clock : List PartFound → Option ℕ
first_clock [] = None
first_clock (p ∷ ps) = broken_clock p.verdict

-- this is the first broken clock of the events, if there is one: that of the first broken part
pub record IsFirstFault (fault : Option ℕ) (plan : Plan) (marks : Marks) (events : List DumpEvent) : Type 0 where
  pub segments : List Segment
  pub last : Segment
  pub whole : events ≡ events_in (segments ++ last ∷ [])
  pub over : EachBehind (IsOver plan marks) segments
  pub is_last : IsLast plan marks segments last
  pub fault_is : fault ≡ first_clock (faults_in (segments ++ last ∷ []))

-- the first broken clock of these broken parts, and, where there are none, of a verdict on clocks behind so many others
abbrev pub fault_among : List PartFound → ℕ → Verdict → Option ℕ
fault_among [] base v = broken_clock (shifted base v)
fault_among (p ∷ ps) base v = broken_clock p.verdict

-- what becomes of the first broken clock where so many clocks have been seen: it stays, and a new one is the last of them
abbrev pub FaultGoes : ℕ → Option ℕ → Option ℕ → Type 0
FaultGoes clocks (Some clock) after = after ≡ Some clock
FaultGoes clocks None None = Unit {0}
FaultGoes clocks None (Some clock) = clock + 1 ≡ clocks
