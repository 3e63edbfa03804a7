use Rattle.std.proofs.Common.{ap, ◌∙◌}
use Rattle.fsb_arbiter.specs.Order.{is_in}
use Rattle.fsb_rules.proofs.Lines.{asserted_back-is}
use Rattle.fsb_rules.proofs.recent.is_among.Goals as goal

pub returns : goal.returns
returns c = λ h d e.
    c.contains.ensures tt ∙ ap (λ lines. is_in lines c.args.line) e ∙ asserted_back-is c.args.line h d c.requires
