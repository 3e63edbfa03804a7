use Rattle.std.proofs.lemmas.Str.Pattern.{split_parts}
use Rattle.fsb_trigger.proofs.Cut.{cut_is}
use Rattle.fsb_trigger.proofs.read.cut.Goals as goal

pub returns : goal.returns
returns c =
    let is = cut_is c.args.byte c.args.text.now c.split_once.result
    (split_parts c.args.byte c.args.text.now c.split_once.result c.split_once.ensures.cases c.requires) in
    record { value = is.0; shorter = is.1 }
