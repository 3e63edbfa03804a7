use Rattle.std.proofs.Common.{ap, ◌∙◌, not}
use Rattle.fsb_why.proofs.Shown.{data-is}
use Rattle.fsb_why.proofs.look.Look.has_unknown_data.Goals as goal

pub returns : goal.returns
returns c = λ m v s.
    c.both.ensures ∙ data-is v c.args.self.now.clock c.args.self.now.sample _ _ s.here (c.has.ensures m v s) (ap not c.is_known.ensures)
