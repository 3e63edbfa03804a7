use Rattle.fsb_cohere.proofs.Passing.{lacking}
use Rattle.fsb_cohere.proofs.cohere.Coherence.feed.Goals as goal

pub returns-then-self-clause-stands : goal.returns-then-self-clause-stands
returns-then-self-clause-stands c = λ first h s n. lacking c.args.self.now first _ c.if-self.true

pub returns-clause-found : goal.returns-clause-found
returns-clause-found c = λ first h s n. c.in-Ok.ensures.found first h s c.if-self.false n

pub returns-clause-stands : goal.returns-clause-stands
returns-clause-stands c = λ first h s n. c.in-Ok.ensures.stands first h s c.if-self.false n
