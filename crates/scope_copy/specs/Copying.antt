-- What is written of a dump.
use Rattle.std.specs.Prelude.{◌≡◌, ◌<◌, ◌≤◌, ◌^◌, ◌⊎◌, ℕ, List, ◌++◌, Bool, true, All, length, Some, None, option_map, Result, Ok, Err}
use Rattle.fsb_signal.specs.declared.sample.Sample.{Sample}
use Rattle.vcd_grammar.specs.Judging.{marks_of_lines}
use Rattle.vcd_grammar.specs.Reading.{Reads}
use Rattle.vcd_way.specs.Declarations.{Declaration}
use Rattle.vcd_way.specs.Ways.{ValueRules, Way}
use Rattle.vcd_way.specs.Answers.{first_fault_by, early_end_by, events_by}
use Rattle.vcd_way.specs.Events.{DumpEvent, samples_among}
use Rattle.vcd_scan.specs.Ending.{early_told}
use Rattle.scope_wiring.specs.declared.wire.Wire.{Wire}
use Rattle.scope_wiring.specs.declared.wiring.Choice.{Choice}
use Rattle.scope_wiring.specs.declared.wiring.Wiring.{Wiring}
use Rattle.scope_wiring.specs.declared.wiring.Picking.TheVariants as pickings
use Rattle.scope_wiring.specs.Pickings.{IsPicking}
use Rattle.scope_way.specs.Wired.{wired_way, wired_lines}
use Rattle.scope_check.specs.declared.part.Part.{Part}
use Rattle.scope_check.specs.Parts.{IsParted}
use Rattle.scope_watch.specs.declared.stop.ScopeStop.{ScopeStop}
use Rattle.scope_watch.specs.declared.stop.ScopeStop.TheVariants as stops
use Rattle.scope_watch.specs.declared.header.Header.{Header}
use Rattle.scope_watch.specs.declared.values.Sampling.{Sampling}
use Rattle.scope_watch.specs.Checking.{Declares, IsWiredBy, IsFaultBehind, TellsMany}
use Rattle.scope_watch.specs.Heading.{IsHeaderFault, IsTooLong}
use Rattle.scope_watch.specs.Prefaces.{is_no_dump}
use Rattle.scope_watch.specs.Watching.{rules_for}
use Rattle.scope_write.specs.Samples.{AreShown, Has64Lines}
use Rattle.scope_write.specs.Text.{shown_dump}
use Rattle.scope_silent.specs.Lines.{there_in}
use Rattle.scope_copy.specs.declared.copy.Copied.{Copied}
use Rattle.scope_copy.specs.declared.copy.CopiedText.{CopiedText}
use Rattle.scope_copy.specs.declared.copy.CopyFinding.{CopyFinding}
use Rattle.scope_copy.specs.declared.copy.CopyFinding.TheVariants as findings

-- these are the samples of the part of the events
pub record AreOfPart (p : Part) (events : List DumpEvent) (samples : List Sample) : Type 0 where
  pub before : List DumpEvent
  pub part : List DumpEvent
  pub behind : List DumpEvent
  pub parted : IsParted p events before part behind
  pub samples_are : samples ≡ samples_among part

-- a whole text, read in a way, has no fault, and this early end, if it has one; behind what a sink held stands the dump of
-- these lines and of the samples of this part, as many as is told
pub record IsPut (told : CopiedText) (p : Part) (there : List Bool) (way : Way (List Declaration)) (text old new : List ℕ) : Type 0 where
  pub none : first_fault_by way text ≡ None
  pub early_end : option_map early_told told.early_end ≡ early_end_by way text
  pub samples : List Sample
  pub of_part : AreOfPart p (events_by way text) samples
  pub clocks : told.clocks ≡ length samples
  pub put : new ≡ old ++ shown_dump there samples
  pub within : All Has64Lines samples
  pub few : length samples ≤ 10 ^ 18

-- what is answered of a whole text, read in a way, of which this part is put behind what a sink held
abbrev pub IsPutAs : Result CopiedText ScopeStop → Part → List Bool → Way (List Declaration) → List ℕ → List ℕ → List ℕ → Type 0
IsPutAs (Ok told) p there way text old new = IsPut told p there way text old new
IsPutAs (Err (stops.Bad fault)) p there way text old new = first_fault_by way text ≡ Some fault
IsPutAs (Err stops.NoHeader) p there way text old new = ⊥
IsPutAs (Err stops.TooLong) p there way text old new = 2 ^ 40 < length text
IsPutAs (Err stops.TooMany) p there way text old new = 10 ^ 18 ≤ length (events_by way text)
IsPutAs (Err stops.WriteFault) p there way text old new = Unit {0}
IsPutAs (Err stops.Memory) p there way text old new = Unit {0}
IsPutAs (Err stops.ReadFault) p there way text old new = Unit {0}

-- the same in the way of wires: the dump declares the lines that have wires, and its text reads back
pub record IsCopiedText (told : CopiedText) (p : Part) (ws : List Wire) (m : ValueRules) (text old new : List ℕ) : Type 0 where
  pub put : IsPut told p (there_in (wired_lines ws)) (wired_way ws m) text old new
  pub shown : AreShown (there_in (wired_lines ws)) put.samples

-- what became of a text with this header: why its wires are not picked, where nothing was put; or the samples of this part
-- of the wires, which were put
abbrev pub IsCopyFinding : CopyFinding → Choice → Part → Sampling → Header → List ℕ → List ℕ → List ℕ → Type 0
IsCopyFinding (findings.Refused refusal) choice p s h text old new =
    Declares (rules_for s) h text × IsPicking h.variables.items choice (pickings.Refused refusal) × (new ≡ old)
IsCopyFinding (findings.Copied w told) choice p s h text old new =
    IsWiredBy choice s h w text × IsCopiedText told p w.wires.items (rules_for s) text old new

-- what is answered of a text: a fault is one in its header, or the first one in the way of the wires that are picked
abbrev pub IsCopied : Result Copied ScopeStop → Choice → Part → Sampling → List ℕ → List ℕ → List ℕ → Type 0
IsCopied (Ok copied) choice p s text old new = IsCopyFinding copied.finding choice p s copied.header text old new
IsCopied (Err (stops.Bad fault)) choice p s text old new = IsHeaderFault text fault ⊎ IsFaultBehind choice s text fault
IsCopied (Err stops.NoHeader) choice p s text old new = is_no_dump text ≡ true
IsCopied (Err stops.TooLong) choice p s text old new = IsTooLong text
IsCopied (Err stops.TooMany) choice p s text old new = TellsMany (10 ^ 18) choice s text
IsCopied (Err stops.WriteFault) choice p s text old new = Unit {0}
IsCopied (Err stops.Memory) choice p s text old new = Unit {0}
IsCopied (Err stops.ReadFault) choice p s text old new = Unit {0}

-- a dump says by the strict grammar the samples of the part of a text, in the way of these wires, as many as is told, and has
-- their marks
pub record ReadsAsPart (dump : List ℕ) (told : CopiedText) (w : Wiring) (p : Part) (s : Sampling) (text : List ℕ) : Type 0 where
  pub samples : List Sample
  pub of_part : AreOfPart p (events_by (wired_way w.wires.items (rules_for s)) text) samples
  pub clocks : told.clocks ≡ length samples
  pub reads : Reads dump (marks_of_lines (wired_lines w.wires.items)) samples
