use Rattle.std.proofs.Common.{sym, ap, ◌∙◌, subst}
use Rattle.fsb_agent_view.specs.Sound.{IsSound}
use Rattle.fsb_agent_view.specs.Wanting.{may_send}
use Rattle.fsb_agent.specs.Parts.{parts_view}
use Rattle.fsb_agent.proofs.SoundSending.{sound_sent}
use Rattle.fsb_agent.proofs.agent.Agent.sent.Goals as goal

pub invariant_of-self : goal.invariant_of-self
invariant_of-self c = (
  subst IsSound (sym c.sent.ensures)
      (sound_sent (parts_view c.self.inside.parts) c.args.clock c.args.number c.self.invariant.0
      (ap (λ v. may_send v c.args.clock c.args.number) c.self.view_is ∙ c.requires)),
  tt,
)
