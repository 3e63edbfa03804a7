use Rattle.fsb_why.proofs.Alone.{all_told}
use Rattle.fsb_why.proofs.look.Look.asking.Goals as goal

pub returns : goal.returns
returns c = λ m v s.
    rw (c.first_of.ensures, c.first_of-symmetric.ensures, c.first_of-low.ensures, c.first_of-high.ensures)
    (all_told m v c.args.self.now.clock _ _ _ _ _ (c.asked-agent_0.ensures m v s) (c.asked-agent_1.ensures m v s)
    (c.asked-agent_2.ensures m v s) (c.asked-agent_3.ensures m v s) (c.asked-priority.ensures m v s))
