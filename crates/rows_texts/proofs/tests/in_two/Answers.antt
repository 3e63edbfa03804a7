use Rattle.std.proofs.Common.{[]}
use Rattle.rows_texts.proofs.tests.in_two.Goals as goal

-- the reader stands for all that was fed
pub finish-requires : goal.finish-requires
finish-requires c = (_, c.feed-2.ensures.stands _ (c.feed.ensures.stands [] c.in_ok-reader.ensures.stands))
