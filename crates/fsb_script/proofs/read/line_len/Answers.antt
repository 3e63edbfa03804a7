use Rattle.std.proofs.Common.{◌∙◌}
use Rattle.fsb_script.proofs.Searches.{line_found}
use Rattle.fsb_script.proofs.read.line_len.Goals as goal

pub returns-clause-value : goal.returns-clause-value
returns-clause-value c = c.unwrap_or.ensures ∙ (line_found c.args.text.now _ c.memchr.ensures).0

pub returns-clause-within : goal.returns-clause-within
returns-clause-within c = rw c.unwrap_or.ensures (line_found c.args.text.now _ c.memchr.ensures).1
