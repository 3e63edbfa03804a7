-- What the moments of a run say of its snoop ends, beside what its whole trace says.
use Rattle.std.specs.Prelude.{◌≡◌, ℕ, Some, slice_index}
use Rattle.std.specs.Option.{option_map}
use Rattle.fsb_trace.specs.At.{request_at}
use Rattle.fsb_trace.specs.Outcome.{settled_outcome_of}
use Rattle.fsb_trace.specs.Requests.{live_clock_of}
use Rattle.fsb_trace.specs.Snoop.{snoop_end_of}
use Rattle.fsb_timely.specs.Past.{SnoopEnd}
use Rattle.fsb_timely.specs.Grants.{snooped_at}
use Rattle.fsb_timely.specs.Moments.{claim_at, number_of_turn, turns_in, grant_of}
use Rattle.fsb_timely.specs.Runs.{Run, past_of}

-- s is what the moment of t has of the snoop end of live request i, and the whole trace says the same: t is the snoop end
-- of i; s has the first clock, the claim, the kind, the settled outcome and the grant of i; and its turn is i's in the list
-- of turns
pub record IsSnoopOf (r : Run) (i t : ℕ) (s : SnoopEnd) : Type 0 where
  pub there : snooped_at (past_of r) t ≡ Some s
  pub reached : snoop_end_of r.trace i ≡ Some t
  pub first : live_clock_of r.trace i ≡ Some s.first
  pub claim : s.claim ≡ claim_at r.trace s.first
  pub kind : s.kind ≡ option_map (λ request. request.kind) (request_at r.trace s.first)
  pub turn : slice_index (turns_in (past_of r).moments) i ≡ number_of_turn s.turn
  pub outcome : settled_outcome_of r.trace (turns_in (past_of r).moments) i ≡ Some s.outcome
  pub grant : s.grant ≡ grant_of (past_of r) r.trace i s.first t s.outcome
