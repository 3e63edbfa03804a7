-- What the end of a request brings, and which deferral a reply answers, by the snoop ends.
use Rattle.std.specs.Prelude.{◌≡◌, ◌<◌, ℕ, ◌+◌, ◌&&◌, ◌||◌, Bool, true, not, nat_eq, Some}
use Rattle.std.specs.Option.{option_and_then}
use Rattle.fsb_count.specs.Options.{is_some_and}
use Rattle.fsb_trace.specs.Outcome.{is_deferral}
use Rattle.fsb_trace.specs.Snoop.{snoop_end_of}
use Rattle.fsb_timely.specs.Grants.{snooped_at}
use Rattle.fsb_timely.specs.Moments.{served_number, turns_in}
use Rattle.fsb_timely.specs.Past.{Claim, Grant, Past, SnoopEnd}
use Rattle.fsb_timely.specs.Runs.{Run, past_of}
use Rattle.fsb_timely.specs.Scripts.{Need}
use Rattle.fsb_coherent.specs.Awaits.{snoop_end_below}

-- the grant is of the needed line to agent a, as it is needed: a read and invalidate or an upgrade brings any line, a
-- read a line that is not needed alone
unfoldable pub is_bringing : ℕ → Need → Grant → Bool
is_bringing a need grant = nat_eq grant.agent a && nat_eq grant.line need.line && (grant.owns || not need.alone)

-- the live request that begins at q has its snoop end at n or below, and that one makes such a grant
unfoldable pub brings : Past → ℕ → ℕ → Need → ℕ → Bool
brings p a n need q = is_some_and (option_and_then (λ s. s.grant) (snoop_end_below p (n + 1) q)) (is_bringing a need)

-- the live request whose snoop end is n serves one that was Deferred before, with a claim of the grant's agent and line
pub record ServesDeferred (r : Run) (n : ℕ) (grant : Grant) : Type 0 where
  pub number : ℕ
  pub reached : snoop_end_of r.trace number ≡ Some n
  pub served : ℕ
  pub serves : served_number r.trace (turns_in (past_of r).moments) number ≡ Some served
  pub clock : ℕ
  pub before : clock < n
  pub served_there : snoop_end_of r.trace served ≡ Some clock
  pub end : SnoopEnd
  pub there : snooped_at (past_of r) clock ≡ Some end
  pub deferred : is_deferral end.outcome ≡ true
  pub claim : Claim
  pub claims : end.claim ≡ Some claim
  pub agent : claim.agent ≡ grant.agent
  pub line : claim.line ≡ grant.line
