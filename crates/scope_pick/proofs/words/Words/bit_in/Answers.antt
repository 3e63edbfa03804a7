use Rattle.std.proofs.Common.{◌∙◌, ap}
use Rattle.std.specs.List.{filter}
use Rattle.scope_pick.specs.Splits.{is_of_word, bit_in}
use Rattle.scope_pick.proofs.OneWord.{bit-within}
use Rattle.scope_pick.proofs.words.Words.bit_in.Goals as goal

pub returns : goal.returns
returns c =
    c.bit_in.ensures
    ∙ ap (λ bs. bit_in bs c.args.bit c.args.number)
    (c.word_at.ensures ∙ c.self.invariant.0 c.args.bit ∙ ap (filter (is_of_word c.args.bit)) c.self.view_is)
    ∙ bit-within c.args.self.now c.args.bit c.args.number
