use Rattle.std.proofs.Common.{[]}
use Rattle.rows_texts.proofs.tests.calls.dump_as_long_as_the_limit.Goals as goal

-- the reader stands for the whole dump
pub finish-requires : goal.finish-requires
finish-requires g c = (_, c.feed.ensures.stands [] c.in_ok-reader.ensures.stands)
