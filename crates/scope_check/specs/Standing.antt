-- What a judge has judged.
use Rattle.std.specs.Prelude.{◌≡◌, ℕ, Bool, true, false, Option, Some, None, List, [], ◌∷◌, slice_get}
use Rattle.fsb_signal.specs.declared.marks.Marks.{Marks}
use Rattle.fsb_rules.specs.declared.broken.Broken.{Broken}
use Rattle.scope_later.specs.declared.part.PartChecker.{PartChecker}
use Rattle.scope_later.specs.Findings.{found_on}
use Rattle.scope_later.specs.Standing.{PartStands}
use Rattle.vcd_way.specs.Events.{DumpEvent, samples_among}
use Rattle.vcd_course.specs.declared.event.Stamp.{Stamp}
use Rattle.vcd_course.specs.Told.{last_told}
use Rattle.scope_check.specs.declared.judging.Judging.{Judging}
use Rattle.scope_check.specs.declared.judging.Phase.{Phase}
use Rattle.scope_check.specs.declared.judging.Phase.TheVariants as phases
use Rattle.scope_check.specs.declared.part.Part.{Part}
use Rattle.scope_check.specs.Bounds.{begins_later}
use Rattle.scope_check.specs.declared.replies.Replies.{Replies}
use Rattle.scope_check.specs.Parts.{IsParted, is_none, quiet_run, clocks_of, has_stopped}
use Rattle.scope_check.specs.Following.{Follows}
use Rattle.scope_check.specs.Findings.{stamps_among}

-- the part begins later, behind these events
abbrev pub later_at : Part → List DumpEvent → Bool
later_at p before = begins_later p.begin (clocks_of before) (has_stopped before)

-- a part has not begun behind these events, of which so many of the last are quiet, and nothing is judged
pub record Waits (run judged : ℕ) (r : Replies) (before part behind : List DumpEvent) : Type 0 where
  pub no_part : part ≡ []
  pub no_behind : behind ≡ []
  pub quiet : run ≡ quiet_run before
  pub none : judged ≡ 0
  pub follows : Follows r []

-- what was found of a part: the stamp beside it is that of the broken clock
abbrev pub IsStampOf : Option Broken → Option Stamp → List DumpEvent → Type 0
IsStampOf found stamp part =
    (b : Broken) → found ≡ Some b → slice_get (stamps_among part) b.clock ≡ Some (last_told stamp)

-- the same, and this was found on its samples; before the first one it is nothing
abbrev pub IsFoundOn : Option Broken → Option Stamp → Bool → Marks → List DumpEvent → Type 0
IsFoundOn found stamp later marks [] = found ≡ None
IsFoundOn found stamp later marks (e ∷ part) =
    (found ≡ found_on later marks (samples_among (e ∷ part))) × IsStampOf found stamp (e ∷ part)

-- a checker was fed the samples of this part, so many, which begins later or doesn't; its requests were followed, and this
-- was found
pub record HasFed (c : PartChecker) (n : ℕ) (r : Replies) (found : Option Broken) (stamp : Option Stamp) (l : Bool) (m : Marks) (part : List DumpEvent) : Type 0 where
  pub stands : PartStands c l m (samples_among part)
  pub count : n ≡ clocks_of part
  pub follows : Follows r (samples_among part)
  pub found_on : IsFoundOn found stamp l m part

-- the judge has fed its checker so
abbrev pub Fed : Judging → Bool → Marks → List DumpEvent → Type 0
Fed j l m part = HasFed j.checker j.judged j.replies j.broken j.stamp l m part

-- it has fed it some samples
abbrev pub HasJudged : Judging → Bool → Marks → List DumpEvent → Type 0
HasJudged j l m part = Fed j l m part × (is_none part ≡ false)

-- where a judge stands that waits, judges, or has judged
abbrev pub IsStage : Phase → Judging → Bool → Marks → List DumpEvent → List DumpEvent → List DumpEvent → Type 0
IsStage phases.Before j later marks before part behind = Waits j.quiet j.judged j.replies before part behind
IsStage phases.Inside j later marks before part behind =
    HasJudged j later marks part × (behind ≡ [])
IsStage phases.After j later marks before part behind =
    HasJudged j later marks part × (is_none behind ≡ false)

-- the judge was made with these marks for this part, and took these events: it has judged the part of them
pub record Stands (j : Judging) (p : Part) (marks : Marks) (events : List DumpEvent) : Type 0 where
  pub before : List DumpEvent
  pub part : List DumpEvent
  pub behind : List DumpEvent
  pub asked : j.part ≡ p
  pub marked : j.marks ≡ marks
  pub parted : IsParted p events before part behind
  pub start : j.start ≡ clocks_of before
  pub has_stopped : j.has_stopped ≡ has_stopped before
  pub stage : IsStage j.phase j (later_at p before) marks before part behind
  pub after : j.after ≡ clocks_of behind

-- where a part stands when the dump stops or goes on: it ends, if it has begun
abbrev pub rested : Phase → Phase
rested phases.Before = phases.Before
rested phases.Inside = phases.After
rested phases.After = phases.After

-- whether it has stopped or gone on before the part, then
abbrev pub stopped : Phase → Bool → Bool
stopped phases.Before before = true
stopped phases.Inside before = before
stopped phases.After before = before
