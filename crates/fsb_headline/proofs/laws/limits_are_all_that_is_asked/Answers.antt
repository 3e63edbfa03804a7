use Rattle.fsb_headline.proofs.Limits.{bench_file_is_enough, dump_is_enough, short_dump_is_enough, too_long}
use Rattle.fsb_headline.proofs.laws.limits_are_all_that_is_asked.Goals as goal

pub returns-clause-too_long : goal.returns-clause-too_long
returns-clause-too_long c = too_long

pub returns-clause-bench : goal.returns-clause-bench
returns-clause-bench c = bench_file_is_enough

pub returns-clause-dump : goal.returns-clause-dump
returns-clause-dump c = dump_is_enough

pub returns-clause-table : goal.returns-clause-table
returns-clause-table c = short_dump_is_enough
