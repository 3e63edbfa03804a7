use Rattle.std.proofs.Common.{sym, ◌∙◌}
use Rattle.fsb_why.proofs.Shown.{pair_here}
use Rattle.fsb_why.proofs.look.Look.second_words.Goals as goal

pub returns : goal.returns
returns c = λ m v s. c.known_pair.ensures ∙ sym (pair_here v c.args.self.now.clock c.args.self.now.sample s.here)
