-- The headline out of what `bench` answers of a run.
use Rattle.std.proofs.Common.{◌≡◌, ◌++◌, ℕ, List, Option, ap, subst, sym}
use Rattle.fsb_access.specs.Replay.{Served}
use Rattle.fsb_hazard.specs.Told.{Told}
use Rattle.fsb_top.specs.Printed.{run_dump, run_log}
use Rattle.fsb_top.specs.RunOf.{IsRunOf}
use Rattle.fsb_script.specs.Drafts.{BenchText}
use Rattle.fsb_script.specs.Plans.{PlanView}
use Rattle.fsb_signal.specs.DumpText.{dump_text}
use Rattle.fsb_signal.specs.Parity.{marks_in}
use Rattle.fsb_timely.specs.Runs.{Run}
use Rattle.fsb_trace.proofs.Interface.{verdict-none}
use Rattle.vcd_grammar.specs.Reading.{Reads}
use Rattle.fsb_headline.specs.Headline.{ArePrefixes, Headline, KeepsHeadline, printed_of}
use Rattle.fsb_top.specs.BenchEnds.{HasRunFrom}

-- of a run of a plan that a file says, its log and its dump are what the headline speaks of
pub of_run : (told : List (Option Told)) (file : List ℕ) (plan : PlanView) (r : Run) → BenchText file plan
    → IsRunOf told plan r → Headline file (run_log r) (run_dump r)
of_run told file plan r says h = record {
  plan = plan;
  says = says;
  trace = r.trace;
  clocks = h.whole;
  log = r.log;
  prints = ap (λ (p : PlanView). printed_of p r.log) h.of_plan;
  prefixes = subst (λ (p : PlanView). ArePrefixes p r.log) h.of_plan h.simulated.in_order.follows;
  values = subst (λ (p : PlanView). Served p.mem r.log) h.of_plan h.simulated.served;
  together = h.simulated.in_order.together;
  dumps = ap (λ (p : PlanView). dump_text p.profile r.trace) h.of_plan;
  reads_back = subst (λ (text : List ℕ). Reads text (marks_in plan.profile) r.trace)
      (ap (λ (p : PlanView). dump_text p.profile r.trace) (sym h.of_plan)) h.reads_back;
  accepted = record { none = verdict-none (marks_in plan.profile) r.trace h.accepted };
}

-- the headline of a call that left the log and the dump of one run of the plan of its file
pub headline : (told : PlanView → List (Option Told)) (file before after dumped : List ℕ) (IsPlan : PlanView → Type 0)
    (Leaves : Run → Type 0) → ((plan : PlanView) → IsPlan plan → BenchText file plan)
    → ((r : Run) → Leaves r → (after ≡ before ++ run_log r) × (dumped ≡ run_dump r))
    → HasRunFrom IsPlan told Leaves → KeepsHeadline file before after dumped
headline told file before after dumped IsPlan Leaves says left has =
    let r = has.ran.run in
    let written = left r has.ran.leaves in
    let said = of_run (told has.plan) file has.plan r (says has.plan has.is_plan) has.ran.is_run in record {
      printed = run_log r;
      appended = written.0;
      headline = subst (λ (text : List ℕ). Headline file (run_log r) text) (sym written.1) said;
    }
