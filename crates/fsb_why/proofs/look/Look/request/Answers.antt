use Rattle.std.proofs.Common.{◌∙◌}
use Rattle.fsb_why.proofs.Shown.{request_is}
use Rattle.fsb_why.proofs.look.Look.request.Goals as goal

pub returns : goal.returns
returns c = λ m v s l.
    c.request_by.ensures
    ∙ request_is v c.args.self.now.clock _ _ l (c.first_words.ensures m v s l) (c.second_words.ensures m v s)
