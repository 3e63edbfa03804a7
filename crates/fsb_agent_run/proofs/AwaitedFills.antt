-- That the record of an agent has the fills of the lines that the agent awaits.
use Rattle.fsb_agent_run.proofs.Words
use Words.{Past, AgentView, fill_count, is_awaited, one_if}
use Rattle.std.specs.Prelude.{◌≡◌, ℕ}

-- there is one fill of each line that agent a awaits, by the snoop ends below n and the ends below c, and none
-- of another
pub record HasFillsOf (p : Past) (a n c : ℕ) (v : AgentView) : Type 0 where
  pub fills : (line : ℕ) → fill_count v line ≡ one_if (is_awaited p a line n c)
