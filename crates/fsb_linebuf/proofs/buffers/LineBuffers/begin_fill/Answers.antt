use Rattle.std.proofs.Common.{◌∙◌, ap}
use Rattle.fsb_linebuf.specs.Buffers.{fill_on}
use Rattle.fsb_linebuf.proofs.FillLists.{one_a_line-push}
use Rattle.fsb_linebuf.proofs.buffers.LineBuffers.begin_fill.Goals as goal

pub invariant_of-self : goal.invariant_of-self
invariant_of-self c =
    rw c.push.ensures.items
    (one_a_line-push c.self.inside.fills.items _ c.self.invariant
    (ap (λ v. fill_on c.args.line v.fills) c.self.view_is ∙ c.requires.free))
