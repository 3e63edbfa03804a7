use Rattle.std.proofs.Common.{◌≡◌, false, sym, ap, ◌∙◌, subst}
use Rattle.std.specs.Prelude.{is_some}
use Rattle.fsb_cache.specs.Sets.{held_at}
use Rattle.fsb_agent_view.specs.AgentViews.{AgentView}
use Rattle.fsb_agent_view.specs.Snooping.{committed, may_commit}
use Rattle.fsb_agent_view.specs.Sound.{IsSound}
use Rattle.fsb_agent.specs.Parts.{parts_view}
use Rattle.fsb_agent.proofs.SoundSnooping.{sound_committed}
use Rattle.fsb_agent.proofs.Unseen.{settled_absent}
use Rattle.fsb_agent.proofs.agent.Agent.commit.Goals as goal

pub invariant_of-self : goal.invariant_of-self
invariant_of-self c = (
  subst IsSound (sym c.commit.ensures)
      (sound_committed (parts_view c.self.inside.parts) c.args.number c.args.mine c.args.request.now c.args.shared
      c.args.outcome c.self.invariant.0
      (ap (λ v. may_commit v c.args.number c.args.mine c.args.outcome) c.self.view_is ∙ c.requires)),
  tt,
)

pub returns-else-has_line : goal.returns-else-has_line
returns-else-has_line c =
    let v = c.args.self.now in
    let line = c.args.request.now.line in
    let absent : is_some (held_at v.lines line) ≡ false =
    ap (λ (v : AgentView). is_some (held_at v.lines line)) (sym c.self.view_is) ∙ sym c.has_line.ensures
    ∙ c.if-has_line.false in
    sym (ap (λ mine. committed v c.args.number mine c.args.request.now c.args.shared c.args.outcome) c.if-mine.false
    ∙ settled_absent v c.args.number c.args.request.now c.args.outcome absent)
