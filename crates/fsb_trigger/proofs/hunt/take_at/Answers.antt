use Rattle.std.proofs.Common.{sym, arith}
use Rattle.std.proofs.lemmas.List.{length-map}
use Rattle.fsb_trigger.specs.TriggerSteps.{view_of}
use Rattle.fsb_trigger.specs.Hunt.{steps_in}
use Rattle.fsb_trigger.proofs.Newest.{slice_get-set_other}
use Rattle.fsb_trigger.proofs.Taken.{taken-found, taken-stays}
use Rattle.fsb_trigger.proofs.hunt.take_at.Goals as goal

pub returns-in_default-clause-keeps : goal.returns-in_default-clause-keeps
returns-in_default-clause-keeps c = λ h e k.
    taken-stays c.args.latest.now (steps_in c.args.trigger.now) h c.args.sample.now c.args.i (k c.args.i (omega arith))
    (c.in_default.ensures h e (λ j l. k j (omega (arith, l))))

pub returns-clause-keeps : goal.returns-clause-keeps
returns-clause-keeps c = λ h e k.
    taken-found c.args.latest.now (steps_in c.args.trigger.now) h c.args.sample.now c.args.i c.in-Some.chain
    (omega (arith, c.requires, c.args.trigger.now.few, length-map c.args.trigger.now.steps.items view_of))
    (c.in-Some.ensures h e (λ j l. k j (omega (arith, l))))

pub returns-clause-rest_stays : goal.returns-clause-rest_stays
returns-clause-rest_stays c = λ k ne. slice_get-set_other c.args.latest.now c.args.i k _ (λ e. ne (sym e))
