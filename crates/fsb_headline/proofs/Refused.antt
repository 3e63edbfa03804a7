-- What is known of a file that is refused, out of what `bench` says of it.
use Rattle.std.proofs.Common.{◌≡◌, ◌^◌, ◌∙◌, ℕ, List, Option, Some, sym}
use Rattle.fsb_script.specs.Drafts.{BenchText, FirstBad}
use Rattle.fsb_script.specs.Plans.{PlanView}
use Rattle.fsb_script.specs.declared.fault.ScriptFault.{ScriptFault}
use Rattle.vcd_grammar.specs.Reading.{FirstFault}
use Rattle.vcd_grammar.specs.declared.fault.VcdFault.{VcdFault}
use Rattle.fsb_calls.specs.FileSays.{IsBadBench, IsBadDump, IsBadTable}
use Rattle.fsb_headline.specs.Refusals.{IsNoBench, IsNoDump, WasReadWhole}

some-fault : (f g : VcdFault) → Some f ≡ Some g → f ≡ g
some-fault f g e = cc

no-dump : (text : List ℕ) (fault : VcdFault) → FirstFault text fault → IsNoDump text fault
no-dump text fault e = record {
  first = e;
  only = λ other h. some-fault other fault (sym h ∙ e);
  no_trace = λ marks trace reads. (let no = sym reads.0 ∙ e in let not : ⊥ = cc in not);
}

pub bad-bench : ((text : List ℕ) (f g : ScriptFault) → FirstBad text f → FirstBad text g → f ≡ g)
    → ((text : List ℕ) (p : PlanView) (f : ScriptFault) → BenchText text p → FirstBad text f → ⊥)
    → (name held left : List ℕ) (begun_as : Option (List ℕ)) (fault : ScriptFault)
    → IsBadBench name held left begun_as fault
    → WasReadWhole 4194304 name held left begun_as × IsNoBench held fault
bad-bench one not-both name held left begun_as fault h = (
  record { named = h.read.named; all = h.read.all; short = h.read.short },
  record {
    first = h.is_bad;
    only = λ other bad. one held other fault bad h.is_bad;
    no_plan = λ plan says. not-both held plan fault says h.is_bad;
  },
)

pub bad-dump : (name held left : List ℕ) (begun_as : Option (List ℕ)) (fault : VcdFault)
    → IsBadDump name held left begun_as fault
    → WasReadWhole (2 ^ 40) name held left begun_as × IsNoDump held fault
bad-dump name held left begun_as fault h =
    (record { named = h.read.named; all = h.read.all; short = h.read.short }, no-dump held fault h.is_bad.first)

pub bad-table : (name held left : List ℕ) (begun_as : Option (List ℕ)) (fault : VcdFault)
    → IsBadTable name held left begun_as fault
    → WasReadWhole 268435456 name held left begun_as × IsNoDump held fault
bad-table name held left begun_as fault h =
    (record { named = h.read.named; all = h.read.all; short = h.read.short }, no-dump held fault h.is_bad)
