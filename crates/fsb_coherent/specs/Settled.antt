-- How a request is settled, by what stands at its snoop end.
use Rattle.std.specs.Prelude.{Bool, if◌then◌else◌, ℕ, Option, Some, None}
use Rattle.fsb_encode.specs.declared.request.Request.{Request}
use Rattle.fsb_hazard.specs.declared.choice.Turn.{Turn}
use Rattle.fsb_hazard.specs.declared.choice.Turn.TheVariants.{Keep, Retry, Defer}
use Rattle.fsb_hazard.specs.Choice.{is_never_held_up}
use Rattle.fsb_timely.specs.Moments.{gives_line, grant_to, is_owner_request, is_shared_at}
use Rattle.fsb_timely.specs.Past.{Claim, Grant, Past}
use Rattle.fsb_trace.specs.At.{Trace, request_at}
use Rattle.fsb_trace.specs.Outcome.{outcome_by_kind}
use Rattle.fsb_trace.specs.declared.outcome.Outcome.{Outcome}
use Rattle.fsb_trace.specs.declared.outcome.Outcome.TheVariants.{Handed, Retried, Deferred}
use Rattle.fsb_count.specs.Options.{is_some_and}

-- the outcome of a request with this turn, by its kind, where no HITM# is at its snoop end
unfoldable pub outcome_by_turn : Turn → Option Request → Outcome
outcome_by_turn Keep request = outcome_by_kind request
outcome_by_turn Retry request = Retried
outcome_by_turn (Defer later) request = Deferred

-- the outcome of a request with this turn: Handed where HITM# is at its snoop end
unfoldable pub outcome_under : Bool → Turn → Option Request → Outcome
outcome_under handed turn request = if handed then Handed else outcome_by_turn turn request

-- the grant that a request of a symmetric agent makes at its snoop end t, if it makes one: to its own claim
unfoldable pub own_grant : Past → Trace → ℕ → ℕ → Outcome → Claim → Option Grant
own_grant p w q t outcome claim =
    if gives_line p w q t outcome
    then Some (grant_to q (is_owner_request (request_at w q)) (is_shared_at w t) claim)
    else None

-- the request is decoded, and is neither retried nor put off: it is a write-back or a reply
unfoldable pub is_always_kept : Option Request → Bool
is_always_kept request = is_some_and request (λ r. is_never_held_up r.kind)
