use Rattle.std.proofs.Common.{sym, ◌∙◌}
use Rattle.fsb_why.proofs.Beginning.{unwon-low, unwon-lock, unwon-none}
use Rattle.fsb_why.proofs.look.Look.unwon.Goals as goal

pub returns-then-self-lt2 : goal.returns-then-self-lt2
returns-then-self-lt2 c = λ m v s t e. unwon-low m v c.args.self.now.clock t c.if-self-lt2.true

pub returns-then-two_back : goal.returns-then-two_back
returns-then-two_back c = λ m v s t e.
    unwon-lock m v c.args.self.now.clock c.args.self.now.last s.last t e (sym (c.two_back.ensures m v s) ∙ c.if-two_back.true)

pub returns-else-two_back : goal.returns-else-two_back
returns-else-two_back c = λ m v s t e.
    unwon-none m v c.args.self.now.clock c.if-self-lt2.false t e (sym (c.two_back.ensures m v s) ∙ c.if-two_back.false)
