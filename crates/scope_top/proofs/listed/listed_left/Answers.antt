use Rattle.std.proofs.Common.{inl}
use Rattle.scope_top.proofs.listed.listed_left.Goals as goal

pub returns-in-Err-TooLong-clause-listed : goal.returns-in-Err-TooLong-clause-listed
returns-in-Err-TooLong-clause-listed g c =
    λ tells. (inl (c.in-Err-TooLong.ensures.too_long tells (cc)), c.in_ok-long_answer-in-Err-TooLong.ensures)
