use Rattle.std.proofs.Common.{sym, ◌∙◌, Some, None}
use Rattle.fsb_why.proofs.Shown.{pair_before}
use Rattle.fsb_why.proofs.look.Look.first_words.Goals as goal

pub returns-in-Some : goal.returns-in-Some
returns-in-Some c = λ m v s l.
    c.known_pair.ensures ∙ pair_before v c.args.self.now.clock (Some c.in-Some.sample) (sym c.in-Some.is ∙ s.one) l

pub returns-in-None : goal.returns-in-None
returns-in-None c = λ m v s l. pair_before v c.args.self.now.clock None (sym c.in-None.is ∙ s.one) l
