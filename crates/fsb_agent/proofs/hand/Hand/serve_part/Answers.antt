use Rattle.fsb_agent.specs.Parts.{at_hand}
use Rattle.fsb_agent.proofs.Stored.{keeps_servable}
use Rattle.fsb_agent.proofs.hand.Hand.serve_part.Goals as goal

pub returns-clause-keeps : goal.returns-clause-keeps
returns-clause-keeps c = λ other may. keeps_servable (at_hand c.args.self.now) (at_hand c.serve-value.new.self)
    c.args.access.now other c.requires.servable c.serve-value.ensures.hand may
