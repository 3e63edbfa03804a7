-- What ends for an agent at a clock.
use Rattle.std.specs.Prelude.{◌≡◌, ℕ, ◌+◌, true, nat_eq, if◌then◌else◌, Option, Some, None}
use Rattle.std.specs.Option.{option_and_then}
use Rattle.fsb_trace.specs.Outcome.{is_deferral}
use Rattle.fsb_timely.specs.Past.{Claim, Grant, Past, SnoopEnd}
use Rattle.fsb_timely.specs.Grants.{is_end_at}
use Rattle.fsb_coherent.specs.Awaits.{snoop_end_below}
use Rattle.fsb_agent_run.specs.AgentClocks.{number_asked}

-- the number of agent a's request that is outstanding no more after the end of the request with this claim and snoop end:
-- that of its own, unless it is Deferred
unfoldable pub number_claimed : ℕ → SnoopEnd → Claim → Option ℕ
number_claimed a s claim =
    if nat_eq claim.agent a then (if is_deferral s.outcome then None else Some s.first) else None

-- the same, of a reply with this grant: the deferred one
unfoldable pub number_replied : Past → ℕ → ℕ → Grant → Option ℕ
number_replied p a c grant = if nat_eq grant.agent a then number_asked p a c grant.line else None

-- the number of agent a's request that is outstanding no more after the end at c of the request with this snoop end
unfoldable pub number_left : Past → ℕ → ℕ → SnoopEnd → Option ℕ
number_left p a c s = elim s.claim [
  | Some claim ↦ number_claimed a s claim
  | None ↦ option_and_then (number_replied p a c) s.grant
]

-- the request of this number of agent a's ends at c, with this snoop end: its own, or that of the reply to it
pub record EndsFor (p : Past) (a c number : ℕ) (s : SnoopEnd) : Type 0 where
  pub first : ℕ
  pub ends : is_end_at p c first ≡ true
  pub snooped : snoop_end_below p (c + 1) first ≡ Some s
  pub left : number_left p a c s ≡ Some number

-- no request of agent a's ends at c
pub record NothingEndsFor (p : Past) (a c : ℕ) : Type 0 where
  pub none : (first : ℕ) (s : SnoopEnd) → is_end_at p c first ≡ true → snoop_end_below p (c + 1) first ≡ Some s
      → number_left p a c s ≡ None
