use Rattle.std.proofs.Common.{refl, ap, ◌∙◌}
use Rattle.fsb_why.proofs.Shown.{both-are}
use Rattle.fsb_signal.specs.Samples.{line_at}
use Rattle.fsb_why.proofs.look.Look.is_held.Goals as goal

pub returns : goal.returns
returns c = λ m v s.
    c.both.ensures
    ∙ both-are _ _ _ _ refl (c.has.ensures m v s ∙ ap (λ l. line_at l v c.args.self.now.clock) c.request_line_of.ensures)
