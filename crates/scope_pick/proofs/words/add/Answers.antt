use Rattle.std.proofs.Common.{◌∙◌, ◌++◌, ◌∷◌, [], Some, ap, cond}
use Rattle.scope_pick.specs.Splits.{is_of_word}
use Rattle.scope_pick.specs.Words.{word_key}
use Rattle.scope_pick.proofs.OneWord.{kept-but, kept-more}
use Rattle.scope_pick.proofs.words.add.Goals as goal

pub returns : goal.returns
returns c other =
    kept-but c.take_out-word.new.words c.insert.new.self c.args.bit other (Some c.push.new.self)
    (c.in_ok-insert.ensures.updates.0 (word_key other))
    ∙ ap (cond (is_of_word other c.args.bit) c.push.new.self.items) (c.take_out-word.ensures.others other)
    ∙ kept-more c.args.words.now c.args.bit other c.push.new.self.items
    (c.in_ok-push.ensures.items ∙ ap (λ l. l ++ c.args.bit ∷ []) c.take_out-word.ensures.own)
