use Rattle.std.proofs.Common.{◌∙◌}
use Rattle.fsb_why.proofs.Beginning.{unwon-both}
use Rattle.fsb_why.proofs.look.Look.is_unwon.Goals as goal

pub returns : goal.returns
returns c = λ m v s.
    c.both.ensures ∙ unwon-both v c.args.self.now.clock c.args.self.now.winner _ _ s.winner (c.has.ensures m v s) c.is_none.ensures
