use Rattle.std.proofs.Common.{sym, subst}
use Rattle.fsb_agent_view.specs.AgentViews.{AgentView}
use Rattle.fsb_agent_view.specs.Sound.{IsSound}
use Rattle.fsb_agent_view.proofs.Interface.{sound_handed}
use Rattle.fsb_agent.specs.Outlooks.{IsKnown}
use Rattle.fsb_agent.specs.Parts.{parts_view}
use Rattle.fsb_agent.proofs.Outlooks.{known-handed}
use Rattle.fsb_agent.proofs.agent.Agent.hand.Goals as goal

pub invariant_of-self : goal.invariant_of-self
invariant_of-self c =
    let v = parts_view c.self.inside.parts in
    subst (λ (w : AgentView). IsSound w × IsKnown w c.self.inside.outlook) (sym c.hand_on.ensures.agent) (
      sound_handed v c.args.number c.self.invariant.0,
      known-handed v c.args.number c.self.inside.outlook c.self.invariant.1,
    )
