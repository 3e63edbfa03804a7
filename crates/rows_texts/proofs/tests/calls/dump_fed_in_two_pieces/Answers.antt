use Rattle.std.proofs.Common.{[], arith}
use Rattle.rows_texts.proofs.tests.calls.dump_fed_in_two_pieces.Goals as goal

-- the second piece is short enough behind the first
pub feed-requires-2 : goal.feed-requires-2
feed-requires-2 g c =
    let small = c.in_ok-bytes.bytes.small in
    let whole = c.deref.ensures.len in
    let front = c.split_at.ensures.front_len in
    let back = c.split_at.ensures.back_len in
    (_, c.feed.ensures.stands [] c.in_ok-reader.ensures.stands, omega arith)

-- the reader stands for both pieces
pub finish-requires : goal.finish-requires
finish-requires g c = (_, c.feed-2.ensures.stands _ (c.feed.ensures.stands [] c.in_ok-reader.ensures.stands))
