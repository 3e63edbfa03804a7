use Rattle.std.proofs.Common.{sym, ap, ◌∙◌}
use Rattle.fsb_hazard.specs.declared.choice.Ask.TheVariants.{Clock, Begun}
use Rattle.fsb_hazard.specs.Entry.{entry}
use Rattle.fsb_hazard.specs.Found.{held_choice}
use Rattle.fsb_hazard.proofs.kinds.ScriptHazardHazard.choose.Goals as goal
use Rattle.fsb_hazard.proofs.kinds.ScriptHazardHazard.choose.Goals.{in-Clock, in-Begun}

pub returns-clause-answer : goal.returns-clause-answer
returns-clause-answer c =
    elim c.match-ask.branch [
      | in-Clock w ↦ w.result-is ∙ w.held_choice.ensures
          ∙ ap (λ l. held_choice l w.in-Clock.clock) w.deref.ensures.value
          ∙ c.self.invariant.held_found w.in-Clock.clock
          ∙ ap (λ l. entry l (Clock w.in-Clock.clock)) c.self.view_is ∙ ap (entry c.args.self.now) (sym w.in-Clock.is)
      | in-Begun w ↦ w.result-is ∙ w.chosen.ensures
          ∙ c.self.invariant.choices_found w.in-Begun.number w.in-Begun.request
          ∙ ap (λ l. entry l (Begun w.in-Begun.number w.in-Begun.request)) c.self.view_is
          ∙ ap (entry c.args.self.now) (sym w.in-Begun.is)
    ]
