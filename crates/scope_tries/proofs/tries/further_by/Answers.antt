-- What is answered of the dump is what comes of the try.
use Rattle.std.proofs.Common.{◌≡◌}
use Rattle.std.proofs.lemmas.Result.{IfOk-weaker}
use Rattle.scope_tries.proofs.tries.further_by.Goals as goal

pub returns-clause-tried : goal.returns-clause-tried
returns-clause-tried g c = λ tells. IfOk-weaker c.further_answered.result _ _ (λ further told. record {
  sampling = c.in_ok-sampling.sampling;
  samples = c.in_ok-sampling.ensures;
  answer = c.check_dump-answer.result;
  is_checked = c.check_dump-answer.ensures.checked tells;
  of_dump = told.0;
  gets = told.1;
}) c.further_answered.ensures.further

pub returns-clause-read_fault : goal.returns-clause-read_fault
returns-clause-read_fault g c = λ is. c.check_dump-answer.ensures.read_fault (c.further_answered.ensures.read_fault is)
