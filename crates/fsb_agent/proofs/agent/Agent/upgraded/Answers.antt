use Rattle.std.proofs.Common.{sym, ap, ◌∙◌, subst}
use Rattle.fsb_agent_view.specs.Arriving.{may_end_upgrade}
use Rattle.fsb_agent_view.specs.Sound.{IsSound}
use Rattle.fsb_agent.specs.Parts.{parts_view}
use Rattle.fsb_agent.proofs.SoundArriving.{sound_ended}
use Rattle.fsb_agent.proofs.agent.Agent.upgraded.Goals as goal

pub invariant_of-self : goal.invariant_of-self
invariant_of-self c = (
  subst IsSound (sym c.end_upgrade.ensures.agent)
      (sound_ended (parts_view c.self.inside.parts) c.args.clock c.args.number c.self.invariant.0
      (ap (λ v. may_end_upgrade v c.args.number) c.self.view_is ∙ c.requires.may)),
  tt,
)
