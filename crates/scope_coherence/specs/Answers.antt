-- What is answered of the coherence of a dump.
use Rattle.std.specs.Prelude.{◌≡◌, ◌≤◌, ◌<◌, ◌^◌, ◌⊎◌, ℕ, true, List, length, Some, None, option_map, Result, Ok, Err}
use Rattle.fsb_signal.specs.declared.marks.Marks.{Marks}
use Rattle.fsb_owner_verdict.specs.Coherence.{coherence_verdict}
use Rattle.vcd_grammar.specs.Judging.{marks_of_lines}
use Rattle.vcd_way.specs.Declarations.{Declaration}
use Rattle.vcd_way.specs.Ways.{Way}
use Rattle.vcd_way.specs.Answers.{first_fault_by, early_end_by, events_by}
use Rattle.vcd_way.specs.Events.{DumpEvent, samples_among}
use Rattle.vcd_scan.specs.Ending.{early_told}
use Rattle.scope_wiring.specs.declared.wiring.Choice.{Choice}
use Rattle.scope_wiring.specs.declared.wiring.Picking.TheVariants as pickings
use Rattle.scope_wiring.specs.Pickings.{IsPicking}
use Rattle.scope_way.specs.Wired.{wired_way, wired_lines}
use Rattle.scope_check.specs.declared.part.Part.{Part}
use Rattle.scope_check.specs.Bounds.{most_counted}
use Rattle.scope_check.specs.Parts.{IsParted, clocks_of}
use Rattle.scope_check.specs.Standing.{later_at}
use Rattle.scope_watch.specs.declared.stop.ScopeStop.{ScopeStop}
use Rattle.scope_watch.specs.declared.stop.ScopeStop.TheVariants as stops
use Rattle.scope_watch.specs.declared.header.Header.{Header}
use Rattle.scope_watch.specs.declared.values.Sampling.{Sampling}
use Rattle.scope_watch.specs.Checking.{Declares, IsWiredBy, IsFaultBehind, TellsMany}
use Rattle.scope_watch.specs.Heading.{IsHeaderFault, IsTooLong}
use Rattle.scope_watch.specs.Prefaces.{is_no_dump}
use Rattle.scope_watch.specs.Watching.{rules_for}
use Rattle.scope_coherence.specs.declared.answer.Cohered.{Cohered}
use Rattle.scope_coherence.specs.declared.answer.CoheredPart.{CoheredPart}
use Rattle.scope_coherence.specs.declared.answer.CoherenceFinding.{CoherenceFinding}
use Rattle.scope_coherence.specs.declared.answer.CoherenceFinding.TheVariants as findings
use Rattle.scope_coherence.specs.Found.{first_joints, pair_of}

-- a whole text, read in a way, has no fault, and this early end, if it has one; its part stands behind so many clocks and has
-- so many, and what is found is the verdict of coherence on its samples, with these marks: of lines that are empty at first,
-- or of any lines where the part begins later
pub record IsCoheredPart (told : CoheredPart) (p : Part) (m : Marks) (way : Way (List Declaration)) (text : List ℕ) : Type 0 where
  pub none : first_fault_by way text ≡ None
  pub early_end : option_map early_told told.early_end ≡ early_end_by way text
  pub before : List DumpEvent
  pub part : List DumpEvent
  pub behind : List DumpEvent
  pub parted : IsParted p (events_by way text) before part behind
  pub start : told.start ≡ clocks_of before
  pub judged : told.judged ≡ clocks_of part
  pub is_later : told.is_later ≡ later_at p before
  pub found : pair_of told.found ≡ coherence_verdict m (first_joints told.is_later) (samples_among part)

-- what is answered of a whole text, read in a way; nothing is written
abbrev pub IsCoheredAs : Result CoheredPart ScopeStop → Part → Marks → Way (List Declaration) → List ℕ → Type 0
IsCoheredAs (Ok told) p m way text = IsCoheredPart told p m way text
IsCoheredAs (Err (stops.Bad fault)) p m way text = first_fault_by way text ≡ Some fault
IsCoheredAs (Err stops.NoHeader) p m way text = ⊥
IsCoheredAs (Err stops.TooLong) p m way text = 2 ^ 40 < length text
IsCoheredAs (Err stops.TooMany) p m way text = most_counted ≤ length (events_by way text)
IsCoheredAs (Err stops.WriteFault) p m way text = ⊥
IsCoheredAs (Err stops.Memory) p m way text = Unit {0}
IsCoheredAs (Err stops.ReadFault) p m way text = Unit {0}

-- what is found of a text with this header: why its wires are not picked, or the verdict of coherence on the part of their
-- samples
abbrev pub IsCoherenceFinding : CoherenceFinding → Choice → Part → Sampling → Header → List ℕ → Type 0
IsCoherenceFinding (findings.Refused refusal) choice p s h text =
    Declares (rules_for s) h text × IsPicking h.variables.items choice (pickings.Refused refusal)
IsCoherenceFinding (findings.Judged w told) choice p s h text =
    IsWiredBy choice s h w text
    × IsCoheredPart told p (marks_of_lines (wired_lines w.wires.items)) (wired_way w.wires.items (rules_for s)) text

-- what is answered of a text: a fault is one in its header, or the first one in the way of the wires that are picked
abbrev pub IsCohered : Result Cohered ScopeStop → Choice → Part → Sampling → List ℕ → Type 0
IsCohered (Ok cohered) choice p s text = IsCoherenceFinding cohered.finding choice p s cohered.header text
IsCohered (Err (stops.Bad fault)) choice p s text = IsHeaderFault text fault ⊎ IsFaultBehind choice s text fault
IsCohered (Err stops.NoHeader) choice p s text = is_no_dump text ≡ true
IsCohered (Err stops.TooLong) choice p s text = IsTooLong text
IsCohered (Err stops.TooMany) choice p s text = TellsMany most_counted choice s text
IsCohered (Err stops.WriteFault) choice p s text = ⊥
IsCohered (Err stops.Memory) choice p s text = Unit {0}
IsCohered (Err stops.ReadFault) choice p s text = Unit {0}
