use Rattle.fsb_tied.proofs.SampledStates.{state-at-sample}
use Rattle.fsb_tied.proofs.laws.states_are_those_of_the_run.Goals as goal

pub returns : goal.returns
returns c = state-at-sample
