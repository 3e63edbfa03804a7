use Rattle.std.proofs.lemmas.Str.Pattern.{strip_prefix_char}
use Rattle.fsb_trigger.proofs.Cut.{behind_is}
use Rattle.fsb_trigger.proofs.read.behind_first.Goals as goal

pub returns : goal.returns
returns c =
    behind_is c.args.byte c.args.text.now c.strip_prefix.result
    (strip_prefix_char c.args.byte c.args.text.now c.strip_prefix.result c.strip_prefix.ensures.cases c.requires)
