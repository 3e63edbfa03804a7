use Rattle.scope_pick.specs.Words.{word_key}
use Rattle.scope_pick.proofs.OneWord.{base-kept}
use Rattle.scope_pick.proofs.words.keep_base.Goals as goal

pub returns-in_ok-insert : goal.returns-in_ok-insert
returns-in_ok-insert c other =
    base-kept c.args.bases.now c.insert.new.self c.args.bits.now c.args.bit other c.base_in-base.result
    (c.requires.bases other) c.base_in-base.ensures (c.in_ok-insert.ensures.updates.0 (word_key other))
