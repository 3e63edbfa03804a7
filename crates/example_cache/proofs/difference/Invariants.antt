use Rattle.example_cache.specs.Compared.{HasSameBelow}
use Rattle.example_cache.proofs.difference.Given as goal

-- the model has the same of each line so far
abbrev pub invariant-loop-at : goal.invariant-loop-at
invariant-loop-at l = HasSameBelow l.model.states l.model.memory l.cache l.memory l.at
