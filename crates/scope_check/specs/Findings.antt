-- What is found of a dump.
use Rattle.std.specs.Prelude.{◌≡◌, ◌<◌, ◌+◌, ℕ, List, [], ◌∷◌, Option, Some, None, slice_get}
use Rattle.fsb_signal.specs.declared.marks.Marks.{Marks}
use Rattle.fsb_rules.specs.declared.broken.Broken.{Broken}
use Rattle.scope_later.specs.Findings.{found_on}
use Rattle.vcd_way.specs.Pieces.{Stamp}
use Rattle.vcd_way.specs.Events.{DumpEvent, Sampled, Hole, Resumed, samples_among}
use Rattle.vcd_course.specs.Told.{last_told}
use Rattle.scope_check.specs.declared.finding.Verdict.{Verdict}
use Rattle.scope_check.specs.declared.finding.Verdict.TheVariants as verdicts
use Rattle.scope_check.specs.declared.finding.Judged.{Judged}
use Rattle.scope_check.specs.declared.part.Part.{Part}
use Rattle.scope_check.specs.Bounds.{begins_later}
use Rattle.scope_check.specs.Parts.{IsParted, clocks_of, has_stopped}
use Rattle.scope_check.specs.Replies.{answers_before}

-- the verdict on so many judged clocks, of which the first has this number in the dump, and on which this was found
abbrev pub Says : ℕ → ℕ → Option Broken → Verdict → Type 0
Says start judged broken verdicts.Nothing = judged ≡ 0
Says start judged broken verdicts.Accepted = (broken ≡ None) × (0 < judged)
Says start judged broken (verdicts.Broken clock rule stamp) =
    (b : Broken) × (broken ≡ Some b) × (clock ≡ start + b.clock) × (rule ≡ b.rule) × (0 < judged)

-- the stamps of the clocks among events
abbrev pub stamps_among : List DumpEvent → List (Option Stamp)
stamps_among [] = []
stamps_among (Sampled sample stamp ∷ es) = stamp ∷ stamps_among es
stamps_among (Hole stamp ∷ es) = stamps_among es
stamps_among (Resumed stamp ∷ es) = stamps_among es

-- a broken clock is one of these events, of which the first clock has this number in the dump, and the stamp is its own
abbrev pub HasStamp : ℕ → List DumpEvent → Verdict → Type 0
HasStamp start part verdicts.Nothing = Unit {0}
HasStamp start part verdicts.Accepted = Unit {0}
HasStamp start part (verdicts.Broken clock rule stamp) =
    (n : ℕ) × (clock ≡ start + n) × (slice_get (stamps_among part) n ≡ Some (last_told stamp))

-- this was found of the events of a dump with these marks: the verdict is that on the samples of the part that is judged
pub record IsFoundIn (f : Judged) (p : Part) (marks : Marks) (events : List DumpEvent) : Type 0 where
  pub before : List DumpEvent
  pub part : List DumpEvent
  pub behind : List DumpEvent
  pub asked : f.part ≡ p
  pub parted : IsParted p events before part behind
  pub start : f.start ≡ clocks_of before
  pub judged : f.judged ≡ clocks_of part
  pub clocks : f.clocks ≡ f.start + f.judged + clocks_of behind
  pub is_later : f.is_later ≡ begins_later p.begin f.start (has_stopped before)
  pub says : Says f.start f.judged (found_on f.is_later marks (samples_among part)) f.verdict
  pub stamp : HasStamp f.start part f.verdict
  pub answers_before : f.answers_before ≡ answers_before (samples_among part)
