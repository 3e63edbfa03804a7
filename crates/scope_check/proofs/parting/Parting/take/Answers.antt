use Rattle.scope_check.proofs.Counting.{if-err}
use Rattle.scope_check.proofs.parting.Parting.take.Goals as goal

pub returns-in_err-see-in-Sampled-clause-many : goal.returns-in_err-see-in-Sampled-clause-many
returns-in_err-see-in-Sampled-clause-many c p es w s = if-err _ (c.in_err-see-in-Sampled.ensures.many p es w s)
