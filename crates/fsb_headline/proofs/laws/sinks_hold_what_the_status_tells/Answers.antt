use Rattle.fsb_headline.proofs.SinksHold.{dumped, logged, text_is_written, verdict_is_written}
use Rattle.fsb_headline.proofs.laws.sinks_hold_what_the_status_tells.Goals as goal

pub returns-clause-log : goal.returns-clause-log
returns-clause-log c = logged

pub returns-clause-dump : goal.returns-clause-dump
returns-clause-dump c = dumped

pub returns-clause-verdict : goal.returns-clause-verdict
returns-clause-verdict c = verdict_is_written

pub returns-clause-text : goal.returns-clause-text
returns-clause-text c = text_is_written
