use Rattle.std.proofs.Common.{[], arith}
use Rattle.rows_texts.proofs.tests.reader_of_one_sample_refuses_a_second.Goals as goal

-- the reader stands for what was fed
pub finish-requires : goal.finish-requires
finish-requires g c = (_, c.feed.ensures.stands [] c.in_ok-reader.ensures.stands)

-- it stands for that after its refusal too, and the second piece is short enough behind it
pub feed-requires-2 : goal.feed-requires-2
feed-requires-2 g c =
    let small = c.in_ok-bytes.bytes.small in
    let whole = c.deref.ensures.len in
    (_, c.in-Err.ensures.stands _ (c.feed.ensures.stands [] c.in_ok-reader.ensures.stands), omega arith)
