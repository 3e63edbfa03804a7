-- What the agents go by: what happened at each clock, and the log. A request is known by its first clock.
use Rattle.std.specs.Prelude.{Bool, List, Option, ℕ}
use Rattle.fsb_encode.specs.declared.request.Kind.{Kind}
use Rattle.fsb_access.specs.declared.log.Done.{Done}
use Rattle.fsb_hazard.specs.declared.choice.Turn.{Turn}
use Rattle.fsb_script.specs.Plans.{PlanView}
use Rattle.fsb_trace.specs.declared.outcome.Outcome.{Outcome}

-- a request of a symmetric agent, as its first clock shows it: that clock, who asks, and for which line
pub record Claim : Type 0 where
  pub first : ℕ
  pub agent : ℕ
  pub line : ℕ

-- an agent gets a line: the first clock of the request whose snoop end gives it, that agent, the line, whether it gets it
-- by a read and invalidate or an upgrade, and whether HIT# or HITM# is at the snoop end
pub record Grant : Type 0 where
  pub first : ℕ
  pub agent : ℕ
  pub line : ℕ
  pub owns : Bool
  pub shared : Bool

-- the snoop end of a live request: its first clock, its claim (a reply has none), its kind, its effective turn, its settled
-- outcome, and the grant that it makes
pub record SnoopEnd : Type 0 where
  pub first : ℕ
  pub claim : Option Claim
  pub kind : Option Kind
  pub turn : Turn
  pub outcome : Outcome
  pub grant : Option Grant

-- a request of a symmetric agent as that agent knows it: its claim, and the ID of the want with which it begins
pub record Owing : Type 0 where
  pub claim : Claim
  pub did : ℕ

-- a clock: what it shows, and what it leaves, which is known before the next one
pub record Moment : Type 0 where
  -- shown: the request of a symmetric agent that begins
  pub begun : Option Owing
  -- shown: the first clock of the request that AERR# cancels
  pub cancelled : Option ℕ
  -- shown: the snoop end of a live request
  pub snooped : Option SnoopEnd
  -- shown: the first clock of the live request whose response this is
  pub responded : Option ℕ
  -- shown: the same, where the response is Retry
  pub retried : Option ℕ
  -- shown: the first clocks of the live requests whose end this is; where responses and data come as they must there is
  -- one at most, since each response comes after the end before it
  pub ended : List ℕ
  -- left: the requests of symmetric agents that are outstanding at the next clock. They go by told outcomes, while grants,
  -- pending lines and due replies go by settled ones; where each response has the code of its settled outcome both agree
  pub outstanding : List Owing
  -- left: the requests of symmetric agents that are in flight at the next clock and have no snoop end up to this one
  pub unsnooped : List Claim

-- what the agents go by: the plan, the moments of the clocks, and the log
pub record Past : Type 0 where
  pub plan : PlanView
  pub moments : List Moment
  pub log : List Done
