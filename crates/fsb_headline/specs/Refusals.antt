-- What is known of a file that is refused.
use Rattle.std.specs.Prelude.{◌≡◌, ◌≤◌, ℕ, List, [], Option, Some, length}
use Rattle.fsb_command.specs.Form.{Form, run, ask, gen}
use Rattle.fsb_script.specs.Drafts.{BenchText, FirstBad}
use Rattle.fsb_script.specs.Plans.{PlanView}
use Rattle.fsb_script.specs.declared.fault.ScriptFault.{ScriptFault}
use Rattle.fsb_signal.specs.declared.marks.Marks.{Marks}
use Rattle.fsb_signal.specs.declared.sample.Sample.{Sample}
use Rattle.fsb_top.specs.FileRead.{DumpKind, in_pieces, kept_whole}
use Rattle.fsb_top.specs.Looks.{look_at}
use Rattle.vcd_grammar.specs.Reading.{FirstFault, Reads}
use Rattle.vcd_grammar.specs.declared.fault.VcdFault.{VcdFault}

-- the source was begun under the name, and all of what it holds, which has at most so many bytes, was read
pub record WasReadWhole (limit : ℕ) (name held left : List ℕ) (begun_as : Option (List ℕ))
    : Type 0 where
  pub named : begun_as ≡ Some name
  pub all : left ≡ []
  pub short : length held ≤ limit

-- the text is no bench file: this is its first fault, no other one is, and it says no plan
pub record IsNoBench (text : List ℕ) (fault : ScriptFault) : Type 0 where
  pub first : FirstBad text fault
  pub only : (other : ScriptFault) → FirstBad text other → other ≡ fault
  pub no_plan : (plan : PlanView) → BenchText text plan → ⊥

-- the text is no dump: this is its first fault, no other one is, and it says no trace
pub record IsNoDump (text : List ℕ) (fault : VcdFault) : Type 0 where
  pub first : FirstFault text fault
  pub only : (other : VcdFault) → FirstFault text other → other ≡ fault
  pub no_trace : (marks : Marks) (trace : List Sample) → Reads text marks trace → ⊥

-- a command that reads a dump so reads it in pieces, and the dump has this name
abbrev pub IsNamedInPieces : DumpKind → List ℕ → List ℕ → Type 0
IsNamedInPieces in_pieces dump name = dump ≡ name
IsNamedInPieces kept_whole dump name = ⊥

-- a command of this form looks at the dump of this name, and reads it in pieces
abbrev pub IsReadInPieces : Form → List ℕ → Type 0
IsReadInPieces (run bench dump) name = ⊥
IsReadInPieces (ask dump asked) name = IsNamedInPieces (look_at asked).kind dump name
IsReadInPieces (gen seed agents items) name = ⊥
