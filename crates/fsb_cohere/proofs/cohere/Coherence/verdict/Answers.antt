use Rattle.fsb_cohere.proofs.cohere.Coherence.verdict.Goals as goal

pub returns : goal.returns
returns c = λ first h s r. c.found.ensures first h (s.judge r) (s.room r)
