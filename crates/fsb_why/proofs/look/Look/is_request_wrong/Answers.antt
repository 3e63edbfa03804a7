use Rattle.std.proofs.Common.{ap, ◌∙◌, ◌&&◌}
use Rattle.fsb_why.proofs.Shown.{request_parity-is}
use Rattle.fsb_why.proofs.look.Look.is_request_wrong.Goals as goal

pub returns : goal.returns
returns c = λ m v s.
    c.both.ensures
    ∙ (ap (λ b. c.args.self.now.marks.rp && b) c.both-odd.ensures
    ∙ request_parity-is m c.args.self.now.marks v c.args.self.now.clock c.args.self.now.sample _ _ s.marked s.here (c.has_parity.ensures m v s)
    c.is_request_odd.ensures)
