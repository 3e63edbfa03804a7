use Rattle.fsb_core.specs.BareBenches.{bare_view}
use Rattle.fsb_core.proofs.RunsOn.{asked-next, bytes-after, carried-after, may-step, stands-next}
use Rattle.fsb_core.proofs.bench.Bench.step.Goals as goal

pub advance-requires-clause-may : goal.advance-requires-clause-may
advance-requires-clause-may g c = may-step (bare_view c.args.self.now.bare) c.args.self.now.stands

pub invariant_of-self-clause-stands : goal.invariant_of-self-clause-stands
invariant_of-self-clause-stands g c = stands-next _ _ _ c.args.self.now.stands c.advance.ensures.stepped

pub returns-clause-asked : goal.returns-clause-asked
returns-clause-asked g c =
    let stepped = rw c.deref_mut.ensures.value at c.advance.ensures.stepped in
    asked-next _ _ _ stepped

pub invariant_of-self-clause-bytes : goal.invariant_of-self-clause-bytes
invariant_of-self-clause-bytes g c =
    bytes-after _ _ _ c.args.self.now.stands c.args.self.now.bytes c.advance.ensures.stepped

pub invariant_of-self-clause-carried : goal.invariant_of-self-clause-carried
invariant_of-self-clause-carried g c =
    carried-after _ _ _ c.args.self.now.stands c.args.self.now.bytes c.args.self.now.carried c.advance.ensures.stepped
