-- What the agents answer at a snoop end, agent by agent.
use Rattle.std.specs.Prelude.{◌≡◌, ◌≢◌, ◌<◌, ℕ, Bool, true}
use Rattle.fsb_line.specs.declared.state.Mesi.{Mesi}
use Rattle.fsb_owners.specs.Joint.{Joint, state_at}

-- another agent than the asker has the line so
pub record AnotherHas (test : Mesi → Bool) (asker : ℕ) (joint : Joint) : Type 0 where
  pub agent : ℕ
  pub one_of_four : agent < 4
  pub other : agent ≢ asker
  pub has : test (state_at joint agent) ≡ true
