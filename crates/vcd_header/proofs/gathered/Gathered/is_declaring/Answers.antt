use Rattle.std.proofs.Common.{◌∙◌}
use Rattle.vcd_grammar.specs.Words.{same}
use Rattle.vcd_header.proofs.Sections.{declaring_is}
use Rattle.vcd_header.proofs.gathered.Gathered.is_declaring.Goals as goal

pub returns : goal.returns
returns c = c.eq.ensures ∙ (λ i. same (c.as_slice.ensures i) (c.as_slice-2.ensures.value i))
    ∙ declaring_is c.args.self.now.section.keyword.items
