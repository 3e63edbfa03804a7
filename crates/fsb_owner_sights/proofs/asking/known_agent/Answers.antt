use Rattle.std.proofs.Common.{◌∙◌}
use Rattle.fsb_owner_sights.proofs.AskingRows.{agent_one, agent_row}
use Rattle.fsb_owner_sights.proofs.asking.known_agent.Goals as goal

pub returns : goal.returns
returns c = record {
  one = c.one_of_four.ensures.one;
  traced = λ v q e.
      c.one_of_four.ensures.same (agent_one v q c.args.row.now c.agent.result e c.agent.ensures)
      ∙ c.agent.ensures ∙ agent_row v q c.args.row.now e;
}
