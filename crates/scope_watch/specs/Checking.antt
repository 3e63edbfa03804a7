-- What is found of a dump.
use Rattle.std.specs.Prelude.{Bool, true, false, ◌≡◌, ◌<◌, ◌≤◌, ◌+◌, ◌-◌, ◌^◌, ◌⊎◌, nat_le, ℕ, List, ◌++◌, length, take, Option, Some, None, option_map, Result, Ok, Err}
use Rattle.fsb_signal.specs.declared.marks.Marks.{Marks}
use Rattle.fsb_signal.specs.declared.sample.Sample.{Sample}
use Rattle.vcd_grammar.specs.declared.fault.VcdFault.{VcdFault}
use Rattle.vcd_grammar.specs.Judging.{marks_of_lines}
use Rattle.vcd_grammar.specs.Tokens.{Token, tokens_of}
use Rattle.vcd_way.specs.Declarations.{Declaration}
use Rattle.vcd_way.specs.Ways.{ValueRules, Way}
use Rattle.vcd_way.specs.Answers.{first_fault_by, early_end_by, events_by}
use Rattle.vcd_scan.specs.Ending.{early_told}
use Rattle.vcd_way.specs.Events.{samples_among}
use Rattle.vcd_joined.specs.Behind.{IsHeader, gathered_in}
use Rattle.scope_wiring.specs.declared.wiring.Choice.{Choice}
use Rattle.scope_wiring.specs.declared.wiring.Refusal.{Refusal}
use Rattle.scope_wiring.specs.declared.wiring.Wiring.{Wiring}
use Rattle.scope_wiring.specs.declared.wiring.Picking.TheVariants as pickings
use Rattle.scope_wiring.specs.Pickings.{IsPicking}
use Rattle.scope_way.specs.Wired.{wired_way, wired_lines}
use Rattle.scope_check.specs.Bounds.{most_counted}
use Rattle.scope_parts.specs.declared.plan.Plan.{Plan}
use Rattle.scope_parts.specs.Findings.{IsJudgedInParts, first_clock}
use Rattle.scope_ring.specs.Ring.{Stands as RingStands}
use Rattle.scope_watch.specs.declared.stop.ScopeStop.{ScopeStop}
use Rattle.scope_watch.specs.declared.stop.ScopeStop.TheVariants as stops
use Rattle.scope_watch.specs.declared.header.Header.{Header}
use Rattle.scope_watch.specs.declared.values.Sampling.{Sampling}
use Rattle.scope_watch.specs.declared.check.Checked.{Checked}
use Rattle.scope_watch.specs.declared.check.JudgedText.{JudgedText}
use Rattle.scope_watch.specs.declared.check.Finding.{Finding}
use Rattle.scope_watch.specs.declared.check.Finding.TheVariants as findings
use Rattle.scope_watch.specs.Heading.{Shows, IsHeaderFault, IsTooLong}
use Rattle.scope_watch.specs.Prefaces.{is_no_dump}
use Rattle.scope_watch.specs.Limit.{IsLimit}
use Rattle.scope_watch.specs.Watching.{rules_for}

-- the samples up to two clocks behind a broken one; without one, all
abbrev pub kept_to : Option ℕ → List Sample → List Sample
kept_to None samples = samples
kept_to (Some clock) samples = take (clock + 3) samples

-- the last of so many clocks is one of these
abbrev pub is_kept : Option ℕ → ℕ → Bool
is_kept None clocks = true
is_kept (Some clock) clocks = nat_le (clocks - 3) clock

-- a whole text, read in a way, has no fault; this is found of its events, parted so, with these marks, and this is its
-- early end and the limit that it tells, if it has one; the ring was fed its samples up to two clocks behind the first
-- broken one
pub record IsJudgedText (told : JudgedText) (plan : Plan) (marks : Marks) (way : Way (List Declaration)) (text : List ℕ) : Type 0 where
  pub none : first_fault_by way text ≡ None
  pub found : IsJudgedInParts told.judged plan marks (events_by way text)
  pub early_end : option_map early_told told.early_end ≡ early_end_by way text
  pub limit : IsLimit way text told.limit
  pub last : RingStands told.last (kept_to (first_clock told.judged.faults.items) (samples_among (events_by way text)))

-- what is judged of a whole text, read in a way and parted so, with these marks; nothing is written
abbrev pub IsJudgedAs : Result JudgedText ScopeStop → Plan → Marks → Way (List Declaration) → List ℕ → Type 0
IsJudgedAs (Ok told) plan marks way text = IsJudgedText told plan marks way text
IsJudgedAs (Err (stops.Bad fault)) plan marks way text = first_fault_by way text ≡ Some fault
IsJudgedAs (Err stops.NoHeader) plan marks way text = ⊥
IsJudgedAs (Err stops.TooLong) plan marks way text = 2 ^ 40 < length text
IsJudgedAs (Err stops.TooMany) plan marks way text = most_counted ≤ length (events_by way text)
IsJudgedAs (Err stops.WriteFault) plan marks way text = ⊥
IsJudgedAs (Err stops.Memory) plan marks way text = Unit {0}
IsJudgedAs (Err stops.ReadFault) plan marks way text = Unit {0}

-- the header of the text declares these variables and has these sections
pub record Declares (m : ValueRules) (h : Header) (text : List ℕ) : Type 0 where
  pub tokens : List Token
  pub more : List Token
  pub header : IsHeader m tokens
  pub first : tokens_of text ≡ tokens ++ more
  pub shows : Shows h (gathered_in m tokens)
  pub is_dump : is_no_dump text ≡ false

-- the wires are picked of the header's variables, as the user chooses
pub record IsWiredBy (choice : Choice) (s : Sampling) (h : Header) (w : Wiring) (text : List ℕ) : Type 0 where
  pub declares : Declares (rules_for s) h text
  pub picked : IsPicking h.variables.items choice (pickings.Wired w)

-- the wires of the bus are not picked of the text's header
pub record IsUnpicked (choice : Choice) (s : Sampling) (text : List ℕ) : Type 0 where
  pub header : Header
  pub refusal : Refusal
  pub declares : Declares (rules_for s) header text
  pub picked : IsPicking header.variables.items choice (pickings.Refused refusal)

-- what is found of a text with this header: why its wires are not picked, or the verdicts on the parts of
-- the samples of the wires
abbrev pub IsFinding : Finding → Choice → Plan → Sampling → Header → List ℕ → Type 0
IsFinding (findings.Refused refusal) choice plan s h text =
    Declares (rules_for s) h text × IsPicking h.variables.items choice (pickings.Refused refusal)
IsFinding (findings.Judged w told) choice plan s h text =
    IsWiredBy choice s h w text
    × IsJudgedAs (Ok told) plan (marks_of_lines (wired_lines w.wires.items)) (wired_way w.wires.items (rules_for s)) text

-- the first fault of a text behind a header of which these wires are picked
pub record IsFaultBehind (choice : Choice) (s : Sampling) (text : List ℕ) (fault : VcdFault) : Type 0 where
  pub header : Header
  pub wiring : Wiring
  pub wired : IsWiredBy choice s header wiring text
  pub fault_is : first_fault_by (wired_way wiring.wires.items (rules_for s)) text ≡ Some fault

-- so many events are told behind a header of which these wires are picked
pub record TellsMany (most : ℕ) (choice : Choice) (s : Sampling) (text : List ℕ) : Type 0 where
  pub header : Header
  pub wiring : Wiring
  pub wired : IsWiredBy choice s header wiring text
  pub many : most ≤ length (events_by (wired_way wiring.wires.items (rules_for s)) text)

-- what is answered of a text: a fault is one in its header, or the first one in the way of the wires that are picked
abbrev pub IsChecked : Result Checked ScopeStop → Choice → Plan → Sampling → List ℕ → Type 0
IsChecked (Ok checked) choice plan s text = IsFinding checked.finding choice plan s checked.header text
IsChecked (Err (stops.Bad fault)) choice plan s text = IsHeaderFault text fault ⊎ IsFaultBehind choice s text fault
IsChecked (Err stops.NoHeader) choice plan s text = is_no_dump text ≡ true
IsChecked (Err stops.TooLong) choice plan s text = IsTooLong text
IsChecked (Err stops.TooMany) choice plan s text = TellsMany most_counted choice s text
IsChecked (Err stops.WriteFault) choice plan s text = ⊥
IsChecked (Err stops.Memory) choice plan s text = Unit {0}
IsChecked (Err stops.ReadFault) choice plan s text = Unit {0}
