-- How an order ends, over what the file of `--lines` and the dump hold.
use Rattle.std.specs.Prelude.{◌≡◌, ◌≤◌, ◌<◌, ◌^◌, ◌⊎◌, ℕ, Bool, false, IsSome, List, [], ◌++◌, map, Option, Some, None, length, Result, Ok, Err}
use Rattle.scope_check.specs.declared.part.Part.{Part}
use Rattle.scope_parts.specs.declared.plan.Plan.{Plan}
use Rattle.scope_copy.specs.declared.copy.Copied.{Copied}
use Rattle.scope_copy.specs.Copying.{IsCopied}
use Rattle.row_texts.specs.declared.line.Form.{Form}
use Rattle.row_texts.specs.declared.line.Form.TheVariants as forms
use Rattle.scope_table.specs.declared.answer.Tabled.{Tabled}
use Rattle.scope_table.specs.Tabled.{IsTabled}
use Rattle.scope_coherence.specs.declared.answer.Cohered.{Cohered}
use Rattle.scope_coherence.specs.Answers.{IsCohered}
use Rattle.scope_wiring.specs.declared.wiring.Choice.{Choice}
use Rattle.scope_wiring.specs.declared.wiring.Picking.{Picking}
use Rattle.scope_wiring.specs.Pickings.{IsPicking}
use Rattle.scope_wiring.specs.Settling.{said_by}
use Rattle.scope_wiring.specs.Texts.{Said}
use Rattle.scope_words.specs.declared.order.Edge.{Edge}
use Rattle.scope_words.specs.declared.order.Edge.TheVariants as words
use Rattle.scope_words.specs.declared.order.Order.{Order}
use Rattle.scope_words.specs.declared.order.Order.TheVariants as orders
use Rattle.scope_words.specs.declared.order.Part.{Part as Words}
use Rattle.scope_words.specs.declared.order.TableForm.{TableForm}
use Rattle.scope_words.specs.declared.order.TableForm.TheVariants as tables
use Rattle.scope_words.specs.declared.order.Views.{Views}
use Rattle.scope_words.specs.declared.order.Wires.{Wires}
use Rattle.vcd_way.specs.declared.tap.Edge.{Edge as WayEdge}
use Rattle.vcd_way.specs.declared.tap.Edge.TheVariants as edges
use Rattle.scope_watch.specs.declared.check.Checked.{Checked}
use Rattle.scope_watch.specs.declared.header.Begun.{Begun}
use Rattle.scope_watch.specs.declared.header.Header.{Header}
use Rattle.scope_watch.specs.declared.stop.ScopeStop.{ScopeStop}
use Rattle.scope_watch.specs.declared.stop.ScopeStop.TheVariants as stops
use Rattle.scope_watch.specs.declared.values.Sampling.{Sampling}
use Rattle.scope_watch.specs.Checking.{IsChecked}
use Rattle.scope_watch.specs.Heading.{IsHeaded}
use Rattle.scope_time.specs.Parts.{part_in}
use Rattle.scope_time.specs.Scales.{scale_of}
use Rattle.scope_report.specs.declared.ending.Ending.{Ending}
use Rattle.scope_report.specs.declared.ending.Ending.TheVariants as endings
use Rattle.scope_top.specs.declared.listed.Listed.{Listed}
use Rattle.scope_top.specs.declared.listed.Listed.TheVariants as listings
use Rattle.scope_top.specs.declared.settled.Settled.{Settled}
use Rattle.scope_top.specs.declared.settled.Settled.TheVariants as settlings
use Rattle.scope_top.specs.Ends.{ending_cohered, ending_copied, ending_found, ending_picked, ending_tabled}
use Rattle.scope_top.specs.Named.{read_of}
use Rattle.scope_top.specs.Parts.{NamesPart, NamesScaled, plan_of}
use Rattle.scope_top.specs.Viewing.{Files, Shows, Untouched}

-- ---- what the words say

-- the text of the file of `--lines`, where one is named
abbrev pub text_named : {F : Type 0} → Option F → List ℕ → Option (List ℕ)
text_named None text = None
text_named (Some file) text = Some text

-- the options of the lines of a text, where there is one
abbrev pub options_of : Option (List ℕ) → List Said
options_of None = []
options_of (Some text) = (read_of text).options

-- a text, where there is one, has at most 2^20 bytes, and each line of it says something
abbrev pub IsReadable : Option (List ℕ) → Type 0
IsReadable None = Unit {0}
IsReadable (Some text) = (length text ≤ 2 ^ 20) × ((read_of text).unread ≡ None)

-- there is a text, and it has more than 2^20 bytes or a line that says nothing
abbrev pub IsUnreadable : Option (List ℕ) → Type 0
IsUnreadable None = ⊥
IsUnreadable (Some text) = (2 ^ 20 < length text) ⊎ IsSome (read_of text).unread

-- the choice is that of the words, with the lines that the text names behind theirs
pub record Says (words : Choice) (text : Option (List ℕ)) (choice : Choice) : Type 0 where
  pub readable : IsReadable text
  pub scope : choice.scope ≡ words.scope
  pub without : choice.without ≡ words.without
  pub lines : map said_by choice.lines.items ≡ map said_by words.lines.items ++ options_of text

-- the choice of a user who gives no option
pub record IsPlain (choice : Choice) : Type 0 where
  pub scope : choice.scope ≡ None
  pub without : choice.without.items ≡ []
  pub lines : choice.lines.items ≡ []

-- the edge that the words name
abbrev pub edge_of : Edge → WayEdge
edge_of words.Rise = edges.Rising
edge_of words.Fall = edges.Falling

-- the form of a table that the words name
abbrev pub form_of : TableForm → Form
form_of tables.Text = forms.Text
form_of tables.Csv = forms.Csv

-- when the lines are sampled, as the words say
abbrev pub sampling_of : Wires → Sampling
sampling_of wires = record { edge = edge_of wires.edge; takes_first = wires.is_first; late = wires.after }

-- ---- how a command ends that reads a dump

-- it is not judged where the file is no dump or too long; where reading or memory failed it doesn't end
abbrev pub EndsStopped : ScopeStop → Ending → Type 0
EndsStopped (stops.Bad fault) ending = ending ≡ endings.Unjudged
EndsStopped stops.NoHeader ending = ending ≡ endings.Unjudged
EndsStopped stops.TooLong ending = ending ≡ endings.Unjudged
EndsStopped stops.TooMany ending = ending ≡ endings.Unjudged
EndsStopped stops.ReadFault ending = ⊥
EndsStopped stops.WriteFault ending = ⊥
EndsStopped stops.Memory ending = ⊥

-- ---- how a command ends that takes wires and a part of a dump

-- how it ends whose dump has no header that can be read
pub record EndsHeaderless (dumped : List ℕ) (ending : Ending) : Type 0 where
  pub stop : ScopeStop
  pub left : List ℕ
  pub is_headed : IsHeaded (Err stop) dumped left
  pub ends : EndsStopped stop ending

-- how it ends whose words name no part of the dump: its header can't be read, or has no `$timescale` for a time
abbrev pub EndsUnparted : Words → List ℕ → Ending → Type 0
EndsUnparted words dumped ending =
    EndsHeaderless dumped ending ⊎ (NamesScaled words dumped None × (ending ≡ endings.Unjudged))

-- how it ends whose file of `--lines` can't be read
abbrev pub EndsUnlisted : Wires → List ℕ → Ending → Type 0
EndsUnlisted wires listed ending =
    IsUnreadable (text_named wires.file listed) × (ending ≡ endings.Unjudged)

-- how it ends that has a part, and ends so with it
pub record EndsParted (Does : Part → Ending → Type 0) (words : Words) (dumped : List ℕ) (ending : Ending) : Type 0 where
  pub part : Part
  pub names : NamesPart words dumped part
  pub does : Does part ending

-- the same, or it has no part, and then this holds
abbrev pub EndsSettled : (Part → Ending → Type 0) → Type 0 → Words → List ℕ → Ending → Type 0
EndsSettled Does Else words dumped ending =
    EndsParted Does words dumped ending ⊎ (EndsUnparted words dumped ending × Else)

-- how it ends: the choice is what the words and the file of `--lines` say, and it ends so with it
pub record EndsChosen (Does : Choice → Ending → Type 0) (wires : Wires) (listed : List ℕ) (ending : Ending) : Type 0 where
  pub choice : Choice
  pub says : Says wires.choice (text_named wires.file listed) choice
  pub does : Does choice ending

-- the same, or it has no choice, and then this holds
abbrev pub EndsWired : (Choice → Ending → Type 0) → Type 0 → Wires → List ℕ → Ending → Type 0
EndsWired Does Else wires listed ending =
    EndsChosen Does wires listed ending ⊎ (EndsUnlisted wires listed ending × Else)

-- ---- `check`

-- how a check ends that answers this of the dump
abbrev pub EndsChecked : Result Checked ScopeStop → Ending → Type 0
EndsChecked (Ok checked) ending = ending ≡ ending_found checked.finding
EndsChecked (Err stop) ending = EndsStopped stop ending

-- a dump of this name, the files that are to show a broken rule in it, what these held before, and hold now, and whether one
-- could not be written
pub record Viewing : Type 0 where
  pub name : List ℕ
  pub views : Views
  pub files : Files
  pub is_unwritten : Bool

-- how a check of these parts of a dump ends, by this choice and sampling; where a rule was found broken the
-- files show it, unless one could not be written
pub record EndsJudged (choice : Choice) (plan : Plan) (s : Sampling) (dumped : List ℕ) (v : Viewing) (ending : Ending) : Type 0 where
  pub answer : Result Checked ScopeStop
  pub is_checked : IsChecked answer choice plan s dumped
  pub ends : EndsChecked answer ending
  pub shows : v.is_unwritten ≡ false → Shows v.views choice s dumped v.name answer v.files

-- how a check of the parts that the words name ends, by this choice and sampling; where they name none no file was written
abbrev pub EndsPlanned : Words → Sampling → List ℕ → Viewing → Choice → Ending → Type 0
EndsPlanned words s dumped v choice ending =
    EndsSettled (λ part. EndsJudged choice (plan_of words part) s dumped v) (Untouched v.files) words dumped ending

-- how a check ends; where its wires can't be chosen no file was written
abbrev pub EndsCheck : Wires → Words → List ℕ → List ℕ → Viewing → Ending → Type 0
EndsCheck wires words listed dumped v ending =
    EndsWired (EndsPlanned words (sampling_of wires) dumped v) (Untouched v.files) wires listed ending

-- ---- `coherence`

-- how the judging of coherence ends that answers this of the dump
abbrev pub EndsCoheredAs : Result Cohered ScopeStop → Ending → Type 0
EndsCoheredAs (Ok cohered) ending = ending ≡ ending_cohered cohered.finding
EndsCoheredAs (Err stop) ending = EndsStopped stop ending

-- how the coherence of this part of a dump is judged, by this choice and sampling
pub record EndsCohered (choice : Choice) (s : Sampling) (dumped : List ℕ) (part : Part) (ending : Ending) : Type 0 where
  pub answer : Result Cohered ScopeStop
  pub is_cohered : IsCohered answer choice part s dumped
  pub ends : EndsCoheredAs answer ending

-- how that of the part ends that the words name
abbrev pub EndsCoherent : Words → Sampling → List ℕ → Choice → Ending → Type 0
EndsCoherent words s dumped choice ending = EndsSettled (EndsCohered choice s dumped) (Unit {0}) words dumped ending

-- how the judging of coherence ends
abbrev pub EndsCoherence : Wires → Words → List ℕ → List ℕ → Ending → Type 0
EndsCoherence wires words listed dumped ending =
    EndsWired (EndsCoherent words (sampling_of wires) dumped) (Unit {0}) wires listed ending

-- ---- `table`

-- how a table ends that answers this of the dump
abbrev pub EndsTabledAs : Result Tabled ScopeStop → Ending → Type 0
EndsTabledAs (Ok tabled) ending = ending ≡ ending_tabled tabled.finding
EndsTabledAs (Err stop) ending = EndsStopped stop ending

-- how the table of this part of a dump ends, by this choice, form and sampling: what the sink held before, and holds now
pub record EndsTabled (choice : Choice) (form : Form) (s : Sampling) (dumped old new : List ℕ) (part : Part) (ending : Ending) : Type 0 where
  pub answer : Result Tabled ScopeStop
  pub is_tabled : IsTabled answer choice part form s dumped old new
  pub ends : EndsTabledAs answer ending

-- how the table of the part that the words name ends; where they name none nothing was put
abbrev pub EndsTableOf : Words → Form → Sampling → List ℕ → List ℕ → List ℕ → Choice → Ending → Type 0
EndsTableOf words form s dumped old new choice ending =
    EndsSettled (EndsTabled choice form s dumped old new) (new ≡ old) words dumped ending

-- how an order for a table ends; where its wires can't be chosen nothing was put
abbrev pub EndsTable : Wires → Words → TableForm → List ℕ → List ℕ → List ℕ → List ℕ → Ending → Type 0
EndsTable wires words form listed dumped old new ending =
    EndsWired (EndsTableOf words (form_of form) (sampling_of wires) dumped old new) (new ≡ old) wires listed ending

-- ---- `pick`

-- how a copy ends that answers this of the dump
abbrev pub EndsCopiedAs : Result Copied ScopeStop → Ending → Type 0
EndsCopiedAs (Ok copied) ending = ending ≡ ending_copied copied.finding
EndsCopiedAs (Err stop) ending = EndsStopped stop ending

-- how the copy of this part of a dump ends, by this choice and sampling: what the sink held before, and holds now
pub record EndsCopied (choice : Choice) (s : Sampling) (dumped old new : List ℕ) (part : Part) (ending : Ending) : Type 0 where
  pub answer : Result Copied ScopeStop
  pub is_copied : IsCopied answer choice part s dumped old new
  pub ends : EndsCopiedAs answer ending

-- how the copy of the part that the words name ends; where they name none nothing was put
abbrev pub EndsPut : Words → Sampling → List ℕ → List ℕ → List ℕ → Choice → Ending → Type 0
EndsPut words s dumped old new choice ending =
    EndsSettled (EndsCopied choice s dumped old new) (new ≡ old) words dumped ending

-- how an order to pick ends; where its wires can't be chosen nothing was put
abbrev pub EndsPick : Wires → Words → List ℕ → List ℕ → List ℕ → List ℕ → Ending → Type 0
EndsPick wires words listed dumped old new ending =
    EndsWired (EndsPut words (sampling_of wires) dumped old new) (new ≡ old) wires listed ending

-- ---- `lines`

-- how `lines` ends at this header: clean exactly where a check without options finds its lines
pub record EndsHeader (header : Header) (ending : Ending) : Type 0 where
  pub choice : Choice
  pub plain : IsPlain choice
  pub picking : Picking
  pub picked : IsPicking header.variables.items choice picking
  pub ends : ending ≡ ending_picked picking

-- how `lines` ends that answers this of the header
abbrev pub EndsHeaded : Result Begun ScopeStop → Ending → Type 0
EndsHeaded (Ok begun) ending = EndsHeader begun.header ending
EndsHeaded (Err stop) ending = EndsStopped stop ending

-- how `lines` ends
pub record EndsLines (dumped : List ℕ) (ending : Ending) : Type 0 where
  pub answer : Result Begun ScopeStop
  pub left : List ℕ
  pub is_headed : IsHeaded answer dumped left
  pub ends : EndsHeaded answer ending

-- ---- the row of each order

-- how an order ends, where the file of `--lines` holds the first text and the dump the second, and the sink of answers the
-- third before and the fourth now; the files that show a broken rule hold these, and only a check writes them
abbrev pub Ends : Order → List ℕ → List ℕ → List ℕ → List ℕ → Files → Bool → Ending → Type 0
Ends (orders.Lines dump) listed dumped old new f is_unwritten ending = EndsLines dumped ending × Untouched f
Ends (orders.Check wires part views dump) listed dumped old new f is_unwritten ending =
    EndsCheck wires part listed dumped
    (record { name = dump.now; views = views; files = f; is_unwritten = is_unwritten }) ending
Ends (orders.Coherence wires part dump) listed dumped old new f is_unwritten ending =
    EndsCoherence wires part listed dumped ending × Untouched f
Ends (orders.Table wires part form dump) listed dumped old new f is_unwritten ending =
    EndsTable wires part form listed dumped old new ending × Untouched f
Ends (orders.Pick wires part dump) listed dumped old new f is_unwritten ending =
    EndsPick wires part listed dumped old new ending × Untouched f
Ends (orders.Rule number) listed dumped old new f is_unwritten ending = (ending ≡ endings.Clean) × Untouched f

-- ---- parts of it

-- how the reading of a file of `--lines` with this text ends
abbrev pub EndsListed : Choice → Option (List ℕ) → Listed → Type 0
EndsListed words text (listings.Chosen choice) = Says words text choice
EndsListed words text (listings.Unlisted answer) = IsUnreadable text × (answer.ending ≡ endings.Unjudged)

-- how the settling of the part that the words name ends
abbrev pub EndsNamed : Words → List ℕ → Settled → Type 0
EndsNamed words dumped (settlings.Part part) = NamesPart words dumped part
EndsNamed words dumped (settlings.Unsettled answer) = EndsUnparted words dumped answer.ending

-- how that ends by the steps of a dump with this header
abbrev pub EndsScaled : Words → Header → Settled → Type 0
EndsScaled words header (settlings.Part part) = part_in (scale_of header.remarks.items) words ≡ Some part
EndsScaled words header (settlings.Unsettled answer) =
    (part_in (scale_of header.remarks.items) words ≡ None) × (answer.ending ≡ endings.Unjudged)
