use Rattle.std.proofs.Common.{[], arith}
use Rattle.rows_texts.proofs.tests.samples_come_with_the_next_time.Goals as goal

-- the second piece is short enough behind the first
pub feed-requires-2 : goal.feed-requires-2
feed-requires-2 g c =
    let small = c.in_ok-bytes.bytes.small in
    let whole = c.deref.ensures.len in
    (_, c.feed.ensures.stands [] c.in_ok-reader.ensures.stands, omega arith)

-- the reader stands for all that was fed
pub finish-stop-requires : goal.finish-stop-requires
finish-stop-requires g c = (_, c.feed-2.ensures.stands _ (c.feed.ensures.stands [] c.in_ok-reader.ensures.stands))
