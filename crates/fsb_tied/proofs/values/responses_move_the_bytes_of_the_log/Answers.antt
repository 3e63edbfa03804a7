use Rattle.fsb_tied.proofs.MovedBytes.{moved-since}
use Rattle.fsb_tied.proofs.values.responses_move_the_bytes_of_the_log.Goals as goal

pub returns : goal.returns
returns c = λ r line u n h before within responds no_end.
    moved-since r line u n h (record { before = before; within = within; responds = responds; no_end = no_end })
