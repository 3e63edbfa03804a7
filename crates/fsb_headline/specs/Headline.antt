-- What the README promises of a run, part by part.
use Rattle.std.specs.Prelude.{◌≡◌, ℕ, ◌++◌, IsTrue, List, length}
use Rattle.fsb_access.specs.Replay.{Served}
use Rattle.fsb_access.specs.ScriptOrder.{AreOfItems, are_items_together, script_of, steps_of}
use Rattle.fsb_access.specs.declared.log.Done.{Done}
use Rattle.fsb_plan_size.specs.AccessCount.{access_count}
use Rattle.fsb_report.specs.LogText.{log_text}
use Rattle.fsb_script.specs.Drafts.{BenchText}
use Rattle.fsb_script.specs.Plans.{PlanView}
use Rattle.fsb_signal.specs.DumpText.{dump_text}
use Rattle.fsb_signal.specs.Parity.{marks_in}
use Rattle.fsb_signal.specs.declared.sample.Sample.{Sample}
use Rattle.vcd_grammar.specs.Reading.{Reads}
use Rattle.fsb_headline.specs.PhaseRules.{BreaksNoRule}

-- the text that is printed of these accesses; its last line counts clocks and accesses of the plan
abbrev pub printed_of : PlanView → List Done → List ℕ
printed_of plan log = log_text plan.clocks (access_count plan.scripts) log

-- the accesses of each agent are a prefix of its script: those of its first items
abbrev pub ArePrefixes : PlanView → List Done → Type 0
ArePrefixes plan log = (agent : ℕ) → AreOfItems (script_of plan.scripts agent) (steps_of agent log)

-- the file is a bench file, and for what was printed and dumped every part of the headline holds
pub record Headline (file printed dumped : List ℕ) : Type 0 where
  -- for every bench file
  pub plan : PlanView
  pub says : BenchText file plan
  -- after the file's number of clocks
  pub trace : List Sample
  pub clocks : length trace ≡ plan.clocks
  -- the accesses printed
  pub log : List Done
  pub prints : printed ≡ printed_of plan log
  -- are, for each agent, a prefix of its script
  pub prefixes : ArePrefixes plan log
  -- one byte memory that serves them singly in printed order gives exactly the printed values
  pub values : Served plan.mem log
  -- each locked sequence stands together
  pub together : IsTrue (are_items_together log)
  -- and the dump written
  pub dumps : dumped ≡ dump_text plan.profile trace
  -- reads back to a trace
  pub reads_back : Reads dumped (marks_in plan.profile) trace
  -- that breaks no phase rule
  pub accepted : BreaksNoRule (marks_in plan.profile) trace

-- what was appended to the log's sink, from before to after, is a text for which, with the file and the dump, the
-- headline holds
pub record KeepsHeadline (file before after dumped : List ℕ) : Type 0 where
  pub printed : List ℕ
  pub appended : after ≡ before ++ printed
  pub headline : Headline file printed dumped
