use Rattle.std.proofs.Common.{sym, ◌∙◌}
use Rattle.fsb_why.proofs.Beginning.{soon-at_start, soon-one, soon-two, spaced-well}
use Rattle.fsb_why.proofs.look.Look.too_soon.Goals as goal

pub returns-then-self-lt2 : goal.returns-then-self-lt2
returns-then-self-lt2 c = λ m v s t. soon-at_start m v c.args.self.now.clock t c.if-self-lt2.true

pub returns-then-one_back : goal.returns-then-one_back
returns-then-one_back c = λ m v s t. soon-one m v c.args.self.now.clock c.from.result c.from.ensures t (sym (c.one_back.ensures m v s) ∙ c.if-one_back.true)

pub returns-then-two_back : goal.returns-then-two_back
returns-then-two_back c = λ m v s t.
    soon-two m v c.args.self.now.clock c.from-then-two_back.result c.from-then-two_back.ensures t (sym (c.one_back.ensures m v s) ∙ c.if-one_back.false)
    (sym (c.two_back.ensures m v s) ∙ c.if-two_back.true)

pub returns-else-two_back : goal.returns-else-two_back
returns-else-two_back c = λ m v s t.
    spaced-well m v c.args.self.now.clock c.if-self-lt2.false (sym (c.one_back.ensures m v s) ∙ c.if-one_back.false)
    (sym (c.two_back.ensures m v s) ∙ c.if-two_back.false)
