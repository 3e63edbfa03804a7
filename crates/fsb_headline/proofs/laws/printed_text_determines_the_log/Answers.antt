use Rattle.fsb_plan_size.specs.AccessCount.{access_count}
use Rattle.fsb_headline.proofs.PrintedLogs.{text-determines}
use Rattle.fsb_headline.proofs.RunLogs.{runs-same}
use Rattle.fsb_headline.proofs.laws.printed_text_determines_the_log.Goals as goal

pub returns-clause-logs : goal.returns-clause-logs
returns-clause-logs c = λ plan. text-determines plan.scripts plan.clocks (access_count plan.scripts)

pub returns-clause-runs : goal.returns-clause-runs
returns-clause-runs c = λ text plan told also_told r s says.
    runs-same told also_told plan r s (c.plans_that_were_read_are_lawful.ensures.lawful text plan says)
