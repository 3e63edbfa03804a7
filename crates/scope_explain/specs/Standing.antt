-- The samples that are explained.
use Rattle.std.specs.Prelude.{◌≡◌, ◌≤◌, [], List, length, Option, Some, None}
use Rattle.fsb_signal.specs.declared.marks.Marks.{Marks}
use Rattle.fsb_trace.specs.At.{Trace}
use Rattle.fsb_trace.specs.Verdict.{verdict}
use Rattle.fsb_rules.specs.declared.broken.Broken.{Broken}
use Rattle.fsb_rules.specs.Checker.{Stands as CheckerStands}
use Rattle.fsb_why.specs.Look.{Stands as WhyStands}
use Rattle.fsb_why_queue.specs.Queue.{fed}
use Rattle.fsb_reasons.specs.declared.reason.Reason.{Reason}
use Rattle.fsb_recent.specs.declared.recent.Around.{Around}
use Rattle.fsb_recent.specs.Recent.{AreAround}
use Rattle.scope_explain.specs.Reasons.{AreReasonsOf, phase_numbers}
use Rattle.scope_explain.specs.Requests.{Stands as RequestsStand}
use Rattle.vcd_way.specs.Events.{DumpEvent}
use Rattle.scope_check.specs.Parting.{HasParted}
use Rattle.scope_explain.specs.declared.explaining.Explaining.{Explaining}
use Rattle.scope_explain.specs.declared.explainer.Explainer.{Explainer}
use Rattle.scope_explain.specs.Explained.{IsExplainedAt}

-- no rule is broken by these samples, of a dump with these marks, and the machines were fed them
pub record Follows (x : Explaining) (m : Marks) (w : Trace) : Type 0 where
  pub unbroken : verdict m w ≡ None
  pub checker : CheckerStands x.checker m w
  pub why : WhyStands x.why m w
  pub requests : RequestsStand x.requests w
  pub count : x.count ≡ length w
  pub few : fed x.requests.queue ≤ x.count
  pub no_reasons : x.reasons.items ≡ []

-- these are the reasons at the last clock of v, and the requests around it, by h, the samples before it
pub record AreFoundAt (m : Marks) (v h : Trace) (reasons : List Reason) (around : Around) : Type 0 where
  pub reasons_are : AreReasonsOf phase_numbers m v (length h) reasons
  pub around_are : AreAround around h

-- or this is found of them
abbrev pub StandsWith : Option Broken → Explaining → Marks → Trace → Type 0
StandsWith None x m w = Follows x m w
StandsWith (Some b) x m w = IsExplainedAt b.clock b.rule x.reasons.items x.around m w

-- the machine was made with these marks and fed these samples
abbrev pub Stands : Explaining → Marks → Trace → Type 0
Stands x m w = StandsWith x.found x m w

-- the second watcher has become of the first as it was shown these events: it was fed the samples of the part of them
pub record HasExplained (first now : Explainer) (events : List DumpEvent) : Type 0 where
  pub samples : Trace
  pub parted : HasParted now.parting first.part events samples
  pub stands : Stands now.explaining first.marks samples
