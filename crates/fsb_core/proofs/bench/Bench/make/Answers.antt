use Rattle.fsb_core.proofs.RunsOn.{bytes-first, carried-first, stands-first}
use Rattle.fsb_core.proofs.bench.Bench.make.Goals as goal

pub returns-clause-told : goal.returns-clause-told
returns-clause-told g c = let told = rw c.as_slice.ensures at c.in_ok-hazards.ensures.told in told

pub invariant_of-result-clause-stands : goal.invariant_of-result-clause-stands
invariant_of-result-clause-stands g c = stands-first c.args.plan _ c.in_ok-bare.ensures.view

pub invariant_of-result-clause-bytes : goal.invariant_of-result-clause-bytes
invariant_of-result-clause-bytes g c = bytes-first c.args.plan _ c.in_ok-bare.ensures.view

pub invariant_of-result-clause-carried : goal.invariant_of-result-clause-carried
invariant_of-result-clause-carried g c = carried-first c.args.plan _ c.in_ok-bare.ensures.view
