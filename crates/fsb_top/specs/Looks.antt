-- The commands that look at a dump: for each one how it reads the dump, what it finds in the trace, how it answers,
-- and what it prints.
use Rattle.std.specs.Prelude.{ℕ, List, Option, Some, None, Result, Ok, Err, length}
use Rattle.fsb_audit.specs.declared.finding.FoulAt.{FoulAt}
use Rattle.fsb_audit.specs.declared.finding.Finding.{Finding}
use Rattle.fsb_audit.specs.declared.finding.Finding.TheVariants as findings
use Rattle.fsb_audit.specs.Fouls.{finding_of}
use Rattle.fsb_audit_dump.specs.Audited.{audited_as}
use Rattle.fsb_audit_dump.specs.AuditText.{audit_text}
use Rattle.fsb_command.specs.Form.{Asked, to_check, to_audit, to_show, to_find, to_wave}
use Rattle.fsb_look.specs.SearchText.{search_text}
use Rattle.fsb_report.specs.VerdictText.{trace_text}
use Rattle.fsb_rules.specs.Checker.{as_broken}
use Rattle.fsb_rules.specs.declared.broken.Broken.{Broken}
use Rattle.fsb_show.specs.ShowText.{show_text}
use Rattle.fsb_signal.specs.declared.marks.Marks.{Marks}
use Rattle.fsb_signal.specs.declared.sample.Sample.{Sample}
use Rattle.fsb_trace.specs.Verdict.{verdict}
use Rattle.fsb_trigger.specs.Match.{least_match}
use Rattle.fsb_trigger.specs.TriggerSteps.{StepView}
use Rattle.fsb_wave.specs.WaveText.{wave_text}
use Rattle.fsb_top.specs.FileRead.{DumpKind, in_pieces, kept_whole}
use Rattle.fsb_top.specs.declared.status.Status.{Status}
use Rattle.fsb_top.specs.declared.status.Status.TheVariants.{Done, Foul, NotFound, Rejected}

-- how a command answers that has looked at a dump: all is well, a rule is broken, a transfer is foul,
-- or what was searched for is not there
pub data Answer : Type 0 where
  is_well : Answer
  is_rejected : (broken : Broken) → Answer
  is_foul : (foul : FoulAt) → Answer
  is_missed : Answer

-- the status of an answer
abbrev pub status_of : Answer → Status
status_of is_well = Done
status_of (is_rejected broken) = Rejected broken
status_of (is_foul foul) = Foul foul
status_of is_missed = NotFound

-- a command that looks at a dump: how it reads the dump, what it finds in a trace, how it answers to
-- what it finds, and the text that it prints of the trace, where the probes have these weights
pub record Look : Type 1 where
  pub Found : Type 0
  pub kind : DumpKind
  pub found : Marks → List Sample → Found
  pub answer : Found → Answer
  pub text : List (Sample → ℕ) → Marks → List Sample → List ℕ

-- the answer to a first broken rule, or to none
abbrev pub broken_answer : Option Broken → Answer
broken_answer None = is_well
broken_answer (Some broken) = is_rejected broken

-- the answer to what an audit finds first, or to how many chunks moved where it finds nothing
abbrev pub audit_answer : Result ℕ Finding → Answer
audit_answer (Ok chunks) = is_well
audit_answer (Err (findings.Broken broken)) = is_rejected broken
audit_answer (Err (findings.Foul foul)) = is_foul foul

-- the answer to the clocks of a match, or to none
abbrev pub match_answer : Option (List ℕ) → Answer
match_answer None = is_missed
match_answer (Some clocks) = is_well

-- the status of each
abbrev pub broken_status : Option Broken → Status
broken_status found = status_of (broken_answer found)

abbrev pub audit_status : Result ℕ Finding → Status
audit_status found = status_of (audit_answer found)

abbrev pub match_status : Option (List ℕ) → Status
match_status found = status_of (match_answer found)

-- the text of the audit of a trace, of a dump with these marks
abbrev pub finding_text : Marks → List Sample → List ℕ
finding_text marks w = audit_text (length w) (audited_as (finding_of marks w) w)

-- the text of the search of a trace for these steps
abbrev pub match_text : List StepView → List Sample → List ℕ
match_text steps w = search_text (least_match steps w) (length w)

-- the row of each command
abbrev pub look_at : Asked → Look
-- `check` finds the first broken rule, and prints the line of the verdict
look_at to_check = record {
  Found = Option Broken;
  kind = in_pieces;
  found = λ marks w. as_broken (verdict marks w);
  answer = broken_answer;
  text = λ weights marks w. trace_text marks w;
}
-- `audit` finds the first broken rule or foul transfer, and prints its line
look_at to_audit = record {
  Found = Result ℕ Finding;
  kind = in_pieces;
  found = λ marks w. audited_as (finding_of marks w) w;
  answer = audit_answer;
  text = λ weights marks w. finding_text marks w;
}
-- `show` finds the first broken rule, and prints the table with the totals of the probes
look_at to_show = record {
  Found = Option Broken;
  kind = kept_whole;
  found = λ marks w. as_broken (verdict marks w);
  answer = broken_answer;
  text = λ weights marks w. show_text weights marks w;
}
-- `find` finds the least match of the steps, and prints its line
look_at (to_find steps) = record {
  Found = Option (List ℕ);
  kind = in_pieces;
  found = λ marks w. least_match steps w;
  answer = match_answer;
  text = λ weights marks w. match_text steps w;
}
-- `wave` finds nothing, and prints the wave of the clocks from `from` to `to`
look_at (to_wave from to) = record {
  Found = Unit {0};
  kind = in_pieces;
  found = λ marks w. tt;
  answer = λ found. is_well;
  text = λ weights marks w. wave_text w from to;
}
