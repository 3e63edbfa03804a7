-- What a clock of a run does to the deferrals.
use Rattle.std.specs.Prelude.{ℕ, zero, suc, ◌+◌, ◌&&◌, Bool, true, false, List, [], ◌∷◌, ◌++◌, map, Option, Some, None, if◌then◌else◌}
use Rattle.fsb_encode.specs.declared.request.Request.{Request}
use Rattle.fsb_signal.specs.declared.lines.TheConstants.Lines.{ADS, HIT}
use Rattle.fsb_signal.specs.Samples.{line_at}
use Rattle.fsb_count.specs.Options.{is_some_and}
use Rattle.fsb_trace.specs.declared.who.Who.TheVariants.{Priority}
use Rattle.fsb_trace.specs.At.{Trace, request_at}
use Rattle.fsb_trace.specs.Deferral.{later_of}
use Rattle.fsb_trace.specs.Outcome.{is_deferral}
use Rattle.fsb_trace.specs.Requests.{is_reply, is_reply_kind}
use Rattle.fsb_timely.specs.Grants.{snooped_at}
use Rattle.fsb_timely.specs.Moments.{number_of_turn}
use Rattle.fsb_trace.specs.Winner.{begins_at}
use Rattle.fsb_timely.specs.Past.{Past, SnoopEnd}
use Rattle.fsb_timely.specs.Runs.{Run, past_of, past_to, requests_below, run_to}
use Rattle.fsb_timely.specs.Starts.{would_begin}
use Rattle.fsb_coherent.specs.Awaits.{cancelled_in, responded_in, snoop_end_below}
use Rattle.fsb_bridge.specs.declared.deferral.Waiting.{Waiting}
use Rattle.fsb_bridge.specs.Deferrals.{new_waiting, waiting_without, with_answer, with_reply}

-- the reply that begins at q
unfoldable pub reply_at : Trace → ℕ → Option Request
reply_at w q = elim (line_at ADS w q && is_reply (request_at w q)) [ true ↦ request_at w q | false ↦ None ]

-- the list once a reply is told to be under way, or no more, if there is one
unfoldable pub after_reply : Option Request → Bool → List Waiting → List Waiting
after_reply None begun list = list
after_reply (Some reply) begun list = map (with_reply reply.did begun) list

-- the reply that begins at n, by the samples up to n: where the priority agent begins a request, what it would begin
unfoldable pub reply_begun : Run → ℕ → Option Request
reply_begun r n =
    elim (begins_at (run_to r n).trace n Priority) [
      | true ↦ would_begin (run_to r n) (past_to (past_of r) n) n Priority
      | false ↦ None
    ]

-- the list with the reply that began at the clock before n
unfoldable pub after_beginning : Run → ℕ → List Waiting → List Waiting
after_beginning r zero list = list
after_beginning r (suc n) list = after_reply (reply_begun r n) true list

-- the deferral of the request whose snoop end this is, at n
unfoldable pub deferral_made : Trace → ℕ → SnoopEnd → Request → Waiting
deferral_made w n s request =
    new_waiting (requests_below w s.first) request (line_at HIT w n) (later_of (number_of_turn s.turn))

-- the list after this snoop end at n, which is that of the request: a reply takes its deferral, and a request that is
-- Deferred comes to the list
unfoldable pub after_snoop_end_of : Trace → ℕ → SnoopEnd → Request → List Waiting → List Waiting
after_snoop_end_of w n s request list =
    if is_reply_kind request.kind then waiting_without request.did list
    else (if is_deferral s.outcome then list ++ deferral_made w n s request ∷ [] else list)

-- the list after the snoop end of clock n, if there is one
unfoldable pub after_snoop_end : Run → ℕ → List Waiting → List Waiting
after_snoop_end r n list =
    elim (snooped_at (past_of r) n) [
      | None ↦ list
      | Some s ↦ elim (request_at r.trace s.first) [
        | None ↦ list
        | Some request ↦ after_snoop_end_of r.trace n s request list
      ]
    ]

-- the list after AERR# of clock n: a reply that is cancelled is under way no more
unfoldable pub after_cancellation : Run → ℕ → List Waiting → List Waiting
after_cancellation r n list =
    elim (cancelled_in (past_of r) n) [ None ↦ list | Some q ↦ after_reply (reply_at r.trace q) false list ]

-- the live request that begins at q is Deferred, with its snoop end at n or below
unfoldable pub was_deferred : Past → ℕ → ℕ → Bool
was_deferred p n q = is_some_and (snoop_end_below p (n + 1) q) (λ s. is_deferral s.outcome)

-- the list after the response of clock n, where it is that of a Deferred request
unfoldable pub after_response : Run → ℕ → List Waiting → List Waiting
after_response r n list =
    elim (responded_in (past_of r) n) [
      | None ↦ list
      | Some q ↦ if was_deferred (past_of r) n q then map (with_answer (requests_below r.trace q) n) list else list
    ]

-- the list after clock n: after the reply that begins, the cancellation, the snoop end and the response
unfoldable pub after_clock : Run → ℕ → List Waiting → List Waiting
after_clock r n list =
    after_response r n (after_snoop_end r n (after_cancellation r n (after_reply (reply_begun r n) true list)))
