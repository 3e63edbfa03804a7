use Rattle.std.proofs.Common.{◌∙◌, sym}
use Rattle.fsb_encode.proofs.DecodedSteps.{decoded-none, decoded-coded, decoded-uncoded}
use Rattle.fsb_encode.proofs.DecodedLaws.{answer}
use Rattle.fsb_encode.proofs.decoding.decode.Goals as goal

pub returns-in_default : goal.returns-in_default
returns-in_default c =
    answer _ _ _ (decoded-none _ _ _ (sym c.kind_of.ensures ∙ c.in_default.is) c.word_fault.ensures.code
    c.word_fault.ensures.len)

pub returns-then-is_coded_as : goal.returns-then-is_coded_as
returns-then-is_coded_as c =
    answer _ _ _ (decoded-coded _ _ _ _ (sym c.kind_of.ensures ∙ c.in-Some.is) c.read_off-request.ensures
    (sym c.is_coded_as.ensures ∙ c.if-is_coded_as.true))

pub returns-else-is_coded_as : goal.returns-else-is_coded_as
returns-else-is_coded_as c =
    answer _ _ _ (decoded-uncoded _ _ _ _ (sym c.kind_of.ensures ∙ c.in-Some.is) c.read_off-request.ensures
    (sym c.is_coded_as.ensures ∙ c.if-is_coded_as.false))
