use Rattle.std.proofs.Common.{◌∙◌, ap}
use Rattle.scope_pick.specs.Splits.{base_of}
use Rattle.scope_pick.proofs.OneWord.{base-within}
use Rattle.scope_pick.proofs.words.base_in.Goals as goal

pub returns : goal.returns
returns c =
    c.base_of.ensures.value
    ∙ ap (λ bs. base_of bs c.args.bit) (c.word_at.ensures ∙ c.requires.words c.args.bit)
    ∙ base-within c.args.bits.now c.args.bit
