use Rattle.std.proofs.Common.{◌∙◌}
use Rattle.fsb_script.proofs.Searches.{word_found}
use Rattle.fsb_script.proofs.word.word_len.Goals as goal

pub returns-clause-value : goal.returns-clause-value
returns-clause-value c = c.unwrap_or.ensures ∙ (word_found c.args.line.now _ c.memchr3.ensures).0

pub returns-clause-within : goal.returns-clause-within
returns-clause-within c = rw c.unwrap_or.ensures (word_found c.args.line.now _ c.memchr3.ensures).1
