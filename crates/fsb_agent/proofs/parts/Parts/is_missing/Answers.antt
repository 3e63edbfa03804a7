use Rattle.std.proofs.Common.{◌≡◌, true, not, sym, ap, ◌∙◌}
use Rattle.std.specs.Prelude.{◌&&◌}
use Rattle.fsb_agent_view.specs.AgentViews.{is_met_by}
use Rattle.fsb_agent_view.specs.Wanting.{is_taken_by}
use Rattle.fsb_agent.specs.Parts.{need_after, parts_view}
use Rattle.fsb_agent.proofs.Outlooks.{missing-untaken}
use Rattle.fsb_agent.proofs.parts.Parts.is_missing.Goals as goal

pub returns-then-not-is_held_as : goal.returns-then-not-is_held_as
returns-then-not-is_held_as c =
    let v = parts_view c.args.self.now in
    let need = need_after c.args.earlier.now c.args.need.now in
    let unmet : not (is_met_by v need) ≡ true = ap not (sym c.is_held_as.ensures ∙ c.if-not-is_held_as.true) in
    ap not c.is_taken.ensures ∙ ap (λ unmet. unmet && not (is_taken_by v need.earlier need.line)) (sym unmet)
    ∙ missing-untaken v need
