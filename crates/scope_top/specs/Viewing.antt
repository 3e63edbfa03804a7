-- What the files hold that show a broken rule.
use Rattle.std.specs.Prelude.{◌≡◌, ◌⊎◌, ℕ, ◌+◌, ◌-◌, ◌^◌, max, min, List, [], ◌∷◌, Option, Some, None, IfSome, Result, Ok, Err}
use Rattle.fsb_io.specs.Faults.{Rose}
use Rattle.vcd_course.specs.declared.event.Stamp.{Stamp}
use Rattle.scope_check.specs.declared.finding.Verdict.{Verdict}
use Rattle.scope_check.specs.declared.finding.Verdict.TheVariants as verdicts
use Rattle.scope_check.specs.declared.part.Begin.TheVariants as begins
use Rattle.scope_check.specs.declared.part.Bound.TheVariants as bounds
use Rattle.scope_check.specs.declared.part.Part.{Part}
use Rattle.scope_clock.specs.Times.{IsClockTime}
use Rattle.scope_copy.specs.declared.copy.Copied.{Copied}
use Rattle.scope_copy.specs.Copying.{IsCopied}
use Rattle.scope_parts.specs.declared.finding.PartFound.{PartFound}
use Rattle.scope_save.specs.declared.mark.Mark.{Mark}
use Rattle.scope_save.specs.SaveText.{save_text}
use Rattle.scope_time.specs.declared.scale.Scale.{Scale}
use Rattle.scope_time.specs.Scales.{factor_of, scale_of}
use Rattle.scope_watch.specs.declared.check.Checked.{Checked}
use Rattle.scope_watch.specs.declared.check.Finding.{Finding}
use Rattle.scope_watch.specs.declared.check.Finding.TheVariants as findings
use Rattle.scope_watch.specs.declared.header.Header.{Header}
use Rattle.scope_watch.specs.declared.stop.ScopeStop.{ScopeStop}
use Rattle.scope_watch.specs.declared.stop.ScopeStop.TheVariants as scopes
use Rattle.scope_watch.specs.declared.values.Sampling.{Sampling}
use Rattle.scope_watch.specs.Watching.{rules_for}
use Rattle.scope_wiring.specs.declared.wiring.Choice.{Choice}
use Rattle.scope_wiring.specs.declared.wiring.Wiring.{Wiring}
use Rattle.scope_words.specs.declared.order.Views.{Views}
use Rattle.scope_top.specs.declared.broken.BrokenAt.{BrokenAt}
use Rattle.scope_top.specs.declared.stop.ViewStop.{ViewStop}
use Rattle.scope_top.specs.declared.stop.ViewStop.TheVariants as stops

-- what the save file and the cut held before, and hold now
pub record Files : Type 0 where
  pub save_old : List ℕ
  pub save_new : List ℕ
  pub cut_old : List ℕ
  pub cut_new : List ℕ

-- neither was written
abbrev pub Untouched : Files → Type 0
Untouched f = (f.save_new ≡ f.save_old) × (f.cut_new ≡ f.cut_old)

-- ---- the broken clock that is shown

-- where a part with this verdict is broken, that begins at this clock
abbrev pub broken_with : ℕ → Verdict → Option BrokenAt
broken_with start verdicts.Nothing = None
broken_with start verdicts.Accepted = None
broken_with start (verdicts.Broken clock rule stamp) = Some (record { start = start; clock = clock; stamp = stamp })

-- where the first of some broken parts is broken
abbrev pub first_broken : List PartFound → Option BrokenAt
first_broken [] = None
first_broken (fault ∷ faults) = broken_with fault.start fault.verdict

-- ---- the save file

-- the time of a stamp
abbrev pub stamp_time : Option Stamp → ℕ
stamp_time None = 0
stamp_time (Some stamp) = stamp.time

-- how many of its unit one step is
abbrev pub factor_by : Option Scale → ℕ
factor_by None = 1
factor_by (Some scale) = factor_of scale.factor

-- the edge of the broken clock, with the time of the clock before it, in a dump with this scale
abbrev pub mark_at : BrokenAt → Option ℕ → Option Scale → Mark
mark_at b before scale = record { time = stamp_time b.stamp; before = before; factor = factor_by scale }

-- the file holds the text of the broken clock, by the time of the clock before it, where that is known
pub record HoldsSave (choice : Choice) (s : Sampling) (dumped name : List ℕ) (h : Header) (w : Wiring) (b : BrokenAt) (new : List ℕ) : Type 0 where
  pub before : Option ℕ
  pub again : Sampling
  pub same : rules_for again ≡ rules_for s
  pub is_before : IfSome before (IsClockTime choice again dumped (b.clock - 1))
  pub text : new ≡ save_text name h.variables.items w.wires.items (mark_at b before (scale_of h.remarks.items))

-- the same, where a file is named
abbrev pub SavesAs : {F : Type 0} → Option F → Choice → Sampling → List ℕ → List ℕ → Header → Wiring → BrokenAt → List ℕ → List ℕ → Type 0
SavesAs None choice s dumped name h w b old new = new ≡ old
SavesAs (Some file) choice s dumped name h w b old new = HoldsSave choice s dumped name h w b new

-- ---- the cut

-- the greatest number of a clock that can be named
abbrev pub named_clock : ℕ → ℕ
named_clock n = min n (2 ^ 32 - 1)

-- from sixteen clocks before the broken one, where its part has begun by then, up to eight behind it
abbrev pub part_around : BrokenAt → Part
part_around b = record {
  begin = begins.At (bounds.Clock (named_clock (max b.start (b.clock - 16))));
  to = Some (bounds.Clock (named_clock (b.clock + 8)));
}

-- the copy of that part stands behind what the file held
pub record IsCutBehind (choice : Choice) (s : Sampling) (dumped : List ℕ) (b : BrokenAt) (old new : List ℕ) : Type 0 where
  pub copied : Copied
  pub is_copied : IsCopied (Ok copied) choice (part_around b) s dumped old new

-- the file holds the copy of that part
pub record HoldsCut (choice : Choice) (s : Sampling) (dumped : List ℕ) (b : BrokenAt) (new : List ℕ) : Type 0 where
  pub again : Sampling
  pub same : rules_for again ≡ rules_for s
  pub cut : IsCutBehind choice again dumped b [] new

-- the same, where a file is named
abbrev pub CutsAs : {F : Type 0} → Option F → Choice → Sampling → List ℕ → BrokenAt → List ℕ → List ℕ → Type 0
CutsAs None choice s dumped b old new = new ≡ old
CutsAs (Some file) choice s dumped b old new = HoldsCut choice s dumped b new

-- ---- both

-- the files show the broken clock; where there is none they are not written
abbrev pub ShowsBroken : Views → Choice → Sampling → List ℕ → List ℕ → Header → Wiring → Option BrokenAt → Files → Type 0
ShowsBroken views choice s dumped name h w None f = Untouched f
ShowsBroken views choice s dumped name h w (Some b) f =
    SavesAs views.save choice s dumped name h w b f.save_old f.save_new × CutsAs views.cut choice s dumped b f.cut_old f.cut_new

-- the files show what was found of a dump with this header
abbrev pub ShowsFinding : Views → Choice → Sampling → List ℕ → List ℕ → Header → Finding → Files → Type 0
ShowsFinding views choice s dumped name h (findings.Refused refusal) f = Untouched f
ShowsFinding views choice s dumped name h (findings.Judged w told) f =
    ShowsBroken views choice s dumped name h w (first_broken told.judged.faults.items) f

-- the files show what a check answers of the dump of this name
abbrev pub Shows : Views → Choice → Sampling → List ℕ → List ℕ → Result Checked ScopeStop → Files → Type 0
Shows views choice s dumped name (Ok checked) f = ShowsFinding views choice s dumped name checked.header checked.finding f
Shows views choice s dumped name (Err stop) f = Untouched f

-- ---- why a file is not written

-- a stop that the text of a dump makes
abbrev pub IsOfText : ScopeStop → Type 0
IsOfText (scopes.Bad fault) = Unit {0}
IsOfText scopes.NoHeader = Unit {0}
IsOfText scopes.TooLong = Unit {0}
IsOfText scopes.TooMany = Unit {0}
IsOfText scopes.ReadFault = ⊥
IsOfText scopes.WriteFault = ⊥
IsOfText scopes.Memory = ⊥

-- why the clocks around a broken one are not written, where their copy stopped so
abbrev pub uncut : ScopeStop → ViewStop
uncut (scopes.Bad fault) = stops.Changed
uncut scopes.NoHeader = stops.Changed
uncut scopes.TooLong = stops.Changed
uncut scopes.TooMany = stops.Changed
uncut scopes.ReadFault = stops.Dump
uncut scopes.WriteFault = stops.Cut
uncut scopes.Memory = stops.Memory

-- a copy of a part of the dump stopped at its text
pub record IsUncopied (dumped : List ℕ) : Type 0 where
  pub choice : Choice
  pub part : Part
  pub s : Sampling
  pub old : List ℕ
  pub new : List ℕ
  pub stop : ScopeStop
  pub is_copied : IsCopied (Err stop) choice part s dumped old new
  pub of_text : IsOfText stop

-- why the files are not written: want of memory, a fault of the dump, of one of the files, or a copy that stopped
abbrev pub MayStop : Type 0 → Type 0 → Type 0 → Type 0 → ViewStop → Type 0
MayStop dump save cut uncopied stops.Memory = Unit {0}
MayStop dump save cut uncopied stops.Dump = dump
MayStop dump save cut uncopied stops.Save = save
MayStop dump save cut uncopied stops.Cut = cut
MayStop dump save cut uncopied stops.Changed = uncopied
