use Rattle.std.proofs.Common.{◌∙◌, ap}
use Rattle.std.specs.List.{filter}
use Rattle.scope_pick.specs.Splits.{is_of_word, is_first_bit}
use Rattle.scope_pick.proofs.OneWord.{first-bit-within}
use Rattle.scope_pick.proofs.words.Words.is_first_bit.Goals as goal

pub returns : goal.returns
returns c =
    c.is_first_bit.ensures
    ∙ ap (λ bs. is_first_bit bs c.args.bit)
    (c.word_at.ensures ∙ c.self.invariant.0 c.args.bit ∙ ap (filter (is_of_word c.args.bit)) c.self.view_is)
    ∙ first-bit-within c.args.self.now c.args.bit
