use Rattle.std.proofs.Common.{None}
use Rattle.scope_pick.specs.Words.{word_key}
use Rattle.scope_pick.proofs.OneWord.{kept-but}
use Rattle.scope_pick.proofs.words.take_out.Goals as goal

pub returns-in-Some-clause-others : goal.returns-in-Some-clause-others
returns-in-Some-clause-others c other =
    kept-but c.args.words.now c.remove.new.self c.args.bit other None (c.remove.ensures.updates.0 (word_key other))

pub returns-in-None-clause-others : goal.returns-in-None-clause-others
returns-in-None-clause-others c other =
    kept-but c.args.words.now c.remove.new.self c.args.bit other None (c.remove.ensures.updates.0 (word_key other))
