use Rattle.std.proofs.Common.{◌∙◌}
use Rattle.fsb_why.proofs.Shown.{began-is}
use Rattle.fsb_why.proofs.look.Look.began.Goals as goal

pub returns : goal.returns
returns c = λ m v s.
    c.both.ensures
    ∙ began-is v c.args.self.now.clock c.args.who c.args.self.now.winner_before _ _ (c.one_back.ensures m v s)
    c.is_agent.ensures s.before
