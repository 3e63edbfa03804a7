-- What is said of the first broken clock of a dump.
use Rattle.std.specs.Prelude.{◌≡◌, ◌<◌, ◌≤◌, ◌^◌, ◌⊎◌, ℕ, true, List, length, Option, Some, None, Result, Ok, Err}
use Rattle.fsb_signal.specs.declared.marks.Marks.{Marks}
use Rattle.vcd_grammar.specs.Judging.{marks_of_lines}
use Rattle.vcd_way.specs.Declarations.{Declaration}
use Rattle.vcd_way.specs.Ways.{Way}
use Rattle.vcd_way.specs.Answers.{first_fault_by, events_by}
use Rattle.vcd_way.specs.Events.{DumpEvent, samples_among}
use Rattle.scope_wiring.specs.declared.wiring.Choice.{Choice}
use Rattle.scope_wiring.specs.declared.wiring.Wiring.{Wiring}
use Rattle.scope_wiring.specs.declared.wiring.Refusal.{Refusal}
use Rattle.scope_wiring.specs.declared.wiring.Picking.TheVariants as pickings
use Rattle.scope_wiring.specs.Pickings.{IsPicking}
use Rattle.scope_way.specs.Wired.{wired_way, wired_lines}
use Rattle.scope_check.specs.declared.part.Part.{Part}
use Rattle.scope_check.specs.Bounds.{most_counted}
use Rattle.scope_check.specs.Parts.{IsParted}
use Rattle.scope_watch.specs.declared.stop.ScopeStop.{ScopeStop}
use Rattle.scope_watch.specs.declared.stop.ScopeStop.TheVariants as stops
use Rattle.scope_watch.specs.declared.header.Header.{Header}
use Rattle.scope_watch.specs.declared.values.Sampling.{Sampling}
use Rattle.scope_watch.specs.Checking.{Declares, IsWiredBy, IsFaultBehind, TellsMany}
use Rattle.scope_watch.specs.Heading.{IsHeaderFault, IsTooLong}
use Rattle.scope_watch.specs.Prefaces.{is_no_dump}
use Rattle.scope_watch.specs.Watching.{rules_for}
use Rattle.scope_explain.specs.declared.explained.Explained.{Explained}
use Rattle.scope_explain.specs.declared.explain.Explanation.{Explanation}
use Rattle.scope_explain.specs.declared.explain.Explanation.TheVariants as explanations
use Rattle.scope_explain.specs.Explained.{IsExplainedBy}

-- a whole text, read in a way, has no fault; this is said of the samples of the part of its events, with these marks
pub record IsFound (found : Option Explained) (p : Part) (m : Marks) (way : Way (List Declaration)) (text : List ℕ) : Type 0 where
  pub none : first_fault_by way text ≡ None
  pub before : List DumpEvent
  pub part : List DumpEvent
  pub behind : List DumpEvent
  pub parted : IsParted p (events_by way text) before part behind
  pub explained : IsExplainedBy found m (samples_among part)

-- what is answered of a whole text, read in a way; nothing is written
abbrev pub IsFoundAs : Result (Option Explained) ScopeStop → Part → Marks → Way (List Declaration) → List ℕ → Type 0
IsFoundAs (Ok found) p m way text = IsFound found p m way text
IsFoundAs (Err (stops.Bad fault)) p m way text = first_fault_by way text ≡ Some fault
IsFoundAs (Err stops.NoHeader) p m way text = ⊥
IsFoundAs (Err stops.TooLong) p m way text = 2 ^ 40 < length text
IsFoundAs (Err stops.TooMany) p m way text = most_counted ≤ length (events_by way text)
IsFoundAs (Err stops.WriteFault) p m way text = ⊥
IsFoundAs (Err stops.Memory) p m way text = Unit {0}
IsFoundAs (Err stops.ReadFault) p m way text = Unit {0}

-- the wires of the bus are not picked of the text's header
pub record IsUnpicked (choice : Choice) (s : Sampling) (text : List ℕ) : Type 0 where
  pub header : Header
  pub refusal : Refusal
  pub declares : Declares (rules_for s) header text
  pub picked : IsPicking header.variables.items choice (pickings.Refused refusal)

-- this is said of the samples of the part of the wires that are picked
pub record IsFoundOf (found : Option Explained) (choice : Choice) (p : Part) (s : Sampling) (text : List ℕ) : Type 0 where
  pub header : Header
  pub wiring : Wiring
  pub wired : IsWiredBy choice s header wiring text
  pub found_is : IsFound found p (marks_of_lines (wired_lines wiring.wires.items)) (wired_way wiring.wires.items (rules_for s)) text

-- what is said of a text
abbrev pub IsExplanation : Explanation → Choice → Part → Sampling → List ℕ → Type 0
IsExplanation explanations.Refused choice p s text = IsUnpicked choice s text
IsExplanation explanations.Unbroken choice p s text = IsFoundOf None choice p s text
IsExplanation (explanations.Broken e) choice p s text = IsFoundOf (Some e) choice p s text

-- what is answered of a text: a fault is one in its header, or the first one in the way of the wires that are picked
abbrev pub IsExplainedAs : Result Explanation ScopeStop → Choice → Part → Sampling → List ℕ → Type 0
IsExplainedAs (Ok found) choice p s text = IsExplanation found choice p s text
IsExplainedAs (Err (stops.Bad fault)) choice p s text = IsHeaderFault text fault ⊎ IsFaultBehind choice s text fault
IsExplainedAs (Err stops.NoHeader) choice p s text = is_no_dump text ≡ true
IsExplainedAs (Err stops.TooLong) choice p s text = IsTooLong text
IsExplainedAs (Err stops.TooMany) choice p s text = TellsMany most_counted choice s text
IsExplainedAs (Err stops.WriteFault) choice p s text = ⊥
IsExplainedAs (Err stops.Memory) choice p s text = Unit {0}
IsExplainedAs (Err stops.ReadFault) choice p s text = Unit {0}
