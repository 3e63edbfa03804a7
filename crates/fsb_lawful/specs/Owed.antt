-- What an agent gets it has asked for.
use Rattle.std.specs.Prelude.{◌<◌, ℕ, IsTrue, length}
use Rattle.fsb_timely.specs.Completions.{is_brought}
use Rattle.fsb_timely.specs.Grants.{is_granted}
use Rattle.fsb_timely.specs.Runs.{Run, past_of}
use Rattle.fsb_timely.specs.Scripts.{Need}
use Rattle.fsb_timely.specs.Wants.{is_asked_for, owed}

-- where a line is granted to an agent, or comes with the end of its grant, one of the agent's outstanding requests is for
-- the line
pub record GrantsAreOwed (r : Run) : Type 0 where
  pub granted : (a c line : ℕ) → c < length r.trace → IsTrue (is_granted (past_of r) a line c)
      → IsTrue (is_asked_for (owed (past_of r) a c) line)
  pub brought : (a c : ℕ) (need : Need) → c < length r.trace → IsTrue (is_brought (past_of r) a c need)
      → IsTrue (is_asked_for (owed (past_of r) a c) need.line)
