use Rattle.std.proofs.Common.{sym, ap, ◌∙◌, subst}
use Rattle.fsb_agent_view.specs.Arriving.{may_give_up}
use Rattle.fsb_agent_view.specs.Sound.{IsSound}
use Rattle.fsb_agent_view.proofs.Interface.{sound_given_up}
use Rattle.fsb_agent.specs.Parts.{parts_view}
use Rattle.fsb_agent.proofs.agent.Agent.give_up.Goals as goal

pub invariant_of-self : goal.invariant_of-self
invariant_of-self c = (
  subst IsSound (sym c.give_up.ensures)
      (sound_given_up (parts_view c.self.inside.parts) c.args.number c.self.invariant.0
      (ap (λ v. may_give_up v c.args.number) c.self.view_is ∙ c.requires)),
  tt,
)
