-- What is written of the requests of a dump.
use Rattle.std.specs.Prelude.{◌≡◌, ◌≤◌, ◌<◌, ◌^◌, ◌⊎◌, ℕ, true, List, ◌++◌, length, Some, None, option_map, Result, Ok, Err}
use Rattle.fsb_signal.specs.declared.marks.Marks.{Marks}
use Rattle.fsb_trace.specs.Verdict.{verdict}
use Rattle.fsb_rules.specs.Checker.{as_broken}
use Rattle.row_texts.specs.declared.line.Form.{Form}
use Rattle.request_lines.specs.Tables.{table_text}
use Rattle.vcd_grammar.specs.Judging.{marks_of_lines}
use Rattle.vcd_way.specs.Declarations.{Declaration}
use Rattle.vcd_way.specs.Ways.{Way}
use Rattle.vcd_way.specs.Answers.{first_fault_by, early_end_by, events_by}
use Rattle.vcd_way.specs.Events.{DumpEvent, samples_among}
use Rattle.vcd_scan.specs.Ending.{early_told}
use Rattle.scope_wiring.specs.declared.wiring.Choice.{Choice}
use Rattle.scope_wiring.specs.declared.wiring.Picking.TheVariants as pickings
use Rattle.scope_wiring.specs.Pickings.{IsPicking}
use Rattle.scope_way.specs.Wired.{wired_way, wired_lines}
use Rattle.scope_check.specs.declared.part.Part.{Part}
use Rattle.scope_check.specs.Bounds.{most_counted}
use Rattle.scope_check.specs.Parts.{IsParted, clocks_of}
use Rattle.scope_watch.specs.declared.stop.ScopeStop.{ScopeStop}
use Rattle.scope_watch.specs.declared.stop.ScopeStop.TheVariants as stops
use Rattle.scope_watch.specs.declared.header.Header.{Header}
use Rattle.scope_watch.specs.declared.values.Sampling.{Sampling}
use Rattle.scope_watch.specs.Checking.{Declares, IsWiredBy, IsFaultBehind, TellsMany}
use Rattle.scope_watch.specs.Heading.{IsHeaderFault, IsTooLong}
use Rattle.scope_watch.specs.Prefaces.{is_no_dump}
use Rattle.scope_watch.specs.Watching.{rules_for}
use Rattle.scope_table.specs.declared.answer.Tabled.{Tabled}
use Rattle.scope_table.specs.declared.answer.TabledPart.{TabledPart}
use Rattle.scope_table.specs.declared.answer.TableFinding.{TableFinding}
use Rattle.scope_table.specs.declared.answer.TableFinding.TheVariants as findings

-- a whole text, read in a way, has no fault, and this early end, if it has one; its part stands behind so many clocks and has
-- so many, and its verdict is what was found; behind what a sink held stands the table of the samples of the part
pub record IsTable (told : TabledPart) (p : Part) (form : Form) (m : Marks) (way : Way (List Declaration)) (text old new : List ℕ) : Type 0 where
  pub none : first_fault_by way text ≡ None
  pub early_end : option_map early_told told.early_end ≡ early_end_by way text
  pub before : List DumpEvent
  pub part : List DumpEvent
  pub behind : List DumpEvent
  pub parted : IsParted p (events_by way text) before part behind
  pub start : told.start ≡ clocks_of before
  pub clocks : told.clocks ≡ clocks_of part
  pub found : told.found ≡ as_broken (verdict m (samples_among part))
  pub put : new ≡ old ++ table_text form (clocks_of before) m (samples_among part)

-- what is answered of a whole text, read in a way, of which this part is put behind what a sink held
abbrev pub IsTableAs : Result TabledPart ScopeStop → Part → Form → Marks → Way (List Declaration) → List ℕ → List ℕ → List ℕ → Type 0
IsTableAs (Ok told) p form m way text old new = IsTable told p form m way text old new
IsTableAs (Err (stops.Bad fault)) p form m way text old new = first_fault_by way text ≡ Some fault
IsTableAs (Err stops.NoHeader) p form m way text old new = ⊥
IsTableAs (Err stops.TooLong) p form m way text old new = 2 ^ 40 < length text
IsTableAs (Err stops.TooMany) p form m way text old new = most_counted ≤ length (events_by way text)
IsTableAs (Err stops.WriteFault) p form m way text old new = Unit {0}
IsTableAs (Err stops.Memory) p form m way text old new = Unit {0}
IsTableAs (Err stops.ReadFault) p form m way text old new = Unit {0}

-- what became of a text with this header: why its wires are not picked, where nothing was put; or the table of this part of
-- the wires, which was put
abbrev pub IsTableFinding : TableFinding → Choice → Part → Form → Sampling → Header → List ℕ → List ℕ → List ℕ → Type 0
IsTableFinding (findings.Refused refusal) choice p form s h text old new =
    Declares (rules_for s) h text × IsPicking h.variables.items choice (pickings.Refused refusal) × (new ≡ old)
IsTableFinding (findings.Tabled w told) choice p form s h text old new =
    IsWiredBy choice s h w text
    × IsTable told p form (marks_of_lines (wired_lines w.wires.items)) (wired_way w.wires.items (rules_for s)) text old new

-- what is answered of a text: a fault is one in its header, or the first one in the way of the wires that are picked
abbrev pub IsTabled : Result Tabled ScopeStop → Choice → Part → Form → Sampling → List ℕ → List ℕ → List ℕ → Type 0
IsTabled (Ok tabled) choice p form s text old new = IsTableFinding tabled.finding choice p form s tabled.header text old new
IsTabled (Err (stops.Bad fault)) choice p form s text old new = IsHeaderFault text fault ⊎ IsFaultBehind choice s text fault
IsTabled (Err stops.NoHeader) choice p form s text old new = is_no_dump text ≡ true
IsTabled (Err stops.TooLong) choice p form s text old new = IsTooLong text
IsTabled (Err stops.TooMany) choice p form s text old new = TellsMany most_counted choice s text
IsTabled (Err stops.WriteFault) choice p form s text old new = Unit {0}
IsTabled (Err stops.Memory) choice p form s text old new = Unit {0}
IsTabled (Err stops.ReadFault) choice p form s text old new = Unit {0}
