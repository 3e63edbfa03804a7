use Rattle.std.proofs.Common.{◌≡◌, Result, Ok, Err, ◌⊎◌, inl, inr, refl}
use Rattle.fsb_script.specs.declared.fault.ScriptFault.{ScriptFault}
use Rattle.fsb_script.specs.Plans.{PlanView}
use Rattle.fsb_script.specs.Drafts.{said_plan}
use Rattle.fsb_script.proofs.laws.one_answer.Goals as goal

answered : (r : Result PlanView ScriptFault) → ((p : PlanView) × (r ≡ Ok p)) ⊎ ((f : ScriptFault) × (r ≡ Err f))
answered (Ok p) = inl (p, refl)
answered (Err f) = inr (f, refl)

pub returns-clause-one_plan : goal.returns-clause-one_plan
returns-clause-one_plan c text p q a b = cc

pub returns-clause-one_fault : goal.returns-clause-one_fault
returns-clause-one_fault c text f g a b = cc

pub returns-clause-not_both : goal.returns-clause-not_both
returns-clause-not_both c text p f a b = cc

pub returns-clause-either : goal.returns-clause-either
returns-clause-either c text = answered (said_plan text)
