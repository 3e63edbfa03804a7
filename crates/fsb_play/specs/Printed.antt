-- What is written of a run.
use Rattle.std.specs.Prelude.{ℕ, List, Option, None, Some}
use Rattle.fsb_plan_size.specs.AccessCount.{access_count}
use Rattle.fsb_report.specs.LogText.{log_text}
use Rattle.fsb_report.specs.SummaryText.{summary_text}
use Rattle.fsb_signal.specs.DumpText.{dump_text}
use Rattle.fsb_timely.specs.Runs.{Run}
use Rattle.fsb_play.specs.declared.print.Print.{Print}
use Rattle.fsb_play.specs.declared.print.Print.TheVariants.{Log, LogAndDump, Summary}

-- the printed log of a run
abbrev pub run_log : Run → List ℕ
run_log r = log_text r.plan.clocks (access_count r.plan.scripts) r.log

-- the summary of a run that was made from these
abbrev pub run_summary : ℕ → ℕ → ℕ → Run → List ℕ
run_summary seed agents items r =
    summary_text seed agents items r.plan.clocks (access_count r.plan.scripts) r.trace r.log

-- the dump of a run, in the profile of its plan
abbrev pub run_dump : Run → List ℕ
run_dump r = dump_text r.plan.profile r.trace

-- the text that is printed of a run
abbrev pub printed_text : Print → Run → List ℕ
printed_text Log r = run_log r
printed_text (LogAndDump name) r = run_log r
printed_text (Summary seed agents items) r = run_summary seed agents items r

-- the name that a dump has, where one is written
abbrev pub dump_named : Print → Option (List ℕ)
dump_named Log = None
dump_named (LogAndDump name) = Some name.now
dump_named (Summary seed agents items) = None
