use Rattle.std.proofs.Common.{sym, subst}
use Rattle.fsb_agent_view.specs.Sound.{IsSound}
use Rattle.fsb_agent.specs.Parts.{parts_view}
use Rattle.fsb_agent.proofs.SoundPerforming.{sound_performed}
use Rattle.fsb_agent.proofs.agent.Agent.perform.Goals as goal

pub invariant_of-self : goal.invariant_of-self
invariant_of-self c = (
  subst IsSound (sym c.perform.ensures.agent)
      (sound_performed (parts_view c.self.inside.parts) c.args.clock c.self.invariant.0),
  tt,
)
