use Rattle.std.proofs.Common.{ap, ◌∙◌, not}
use Rattle.fsb_why.proofs.Shown.{both-are}
use Rattle.fsb_signal.specs.Samples.{line_at}
use Rattle.fsb_trace.specs.At.{line_back}
use Rattle.fsb_why.proofs.look.Look.is_dropped.Goals as goal

pub returns : goal.returns
returns c = λ m v s.
    c.both.ensures
    ∙ both-are _ _ _ _ (c.one_back.ensures m v s ∙ ap (λ l. line_back l v c.args.self.now.clock 1) c.request_line_of-line.ensures)
    (ap not (c.has.ensures m v s ∙ ap (λ l. line_at l v c.args.self.now.clock) c.request_line_of-line.ensures))
