-- What happens at a clock, as the samples up to that clock and the past below it show it.
use Rattle.std.specs.Prelude.{ℕ, ◌+◌, ◌*◌, ◌-◌, ◌&&◌, ◌||◌, Bool, true, false, not, nat_eq, nat_le, nat_lt, List, [], ◌∷◌, Option, Some, None, slice_get}
use Rattle.std.specs.List.{filter, filter_map, list_any}
use Rattle.std.specs.Option.{option_map, option_map_or, option_and_then}
use Rattle.fsb_count.specs.Clocks.{first_where, all_where, count_where}
use Rattle.fsb_count.specs.Options.{is_some_and, is_at}
use Rattle.fsb_signal.specs.declared.lines.TheConstants.Lines.{ADS, AERR, HIT, HITM}
use Rattle.fsb_signal.specs.Samples.{line_at}
use Rattle.fsb_encode.specs.declared.request.Kind.{Kind}
use Rattle.fsb_encode.specs.declared.request.Kind.TheVariants.{Reply, Invalidate, Read, WriteBack, Upgrade}
use Rattle.fsb_encode.specs.declared.request.Request.{Request}
use Rattle.fsb_hazard.specs.declared.choice.Choice.{Choice}
use Rattle.fsb_hazard.specs.declared.choice.Turn.{Turn}
use Rattle.fsb_hazard.specs.declared.choice.Turn.TheVariants.{Keep, Retry, Defer}
use Rattle.fsb_hazard.specs.Choice.{quiet_choice, effective}
use Rattle.fsb_script.specs.declared.plan.Window.{Window}
use Rattle.fsb_trace.specs.declared.outcome.Outcome.{Outcome}
use Rattle.fsb_trace.specs.declared.outcome.Outcome.TheVariants.{Granted, Handed, Retried, Deferred, Written, Replied, Failed, Upgraded}
use Rattle.fsb_trace.specs.declared.who.Who.TheVariants.{Symmetric, Priority}
use Rattle.fsb_trace.specs.At.{Trace, request_at, responds_at, response_code_at}
use Rattle.fsb_trace.specs.Deferral.{is_pending}
use Rattle.fsb_trace.specs.Flight.{in_flight, outstanding, reply_number_of}
use Rattle.fsb_trace.specs.Outcome.{response_code_of, settled_by, is_settled_deferred}
use Rattle.fsb_trace.specs.Requests.{live_clock_of, live_count, live_request_of, is_reply, line_of}
use Rattle.fsb_trace.specs.Response.{end_of}
use Rattle.fsb_trace.specs.Snoop.{snoop_end_of}
use Rattle.fsb_trace.specs.Winner.{winner_at}
use Rattle.fsb_timely.specs.Past.{Claim, Grant, Moment, Owing, Past, SnoopEnd}
use Rattle.fsb_timely.specs.Grants.{holds_line, is_owning}
use Rattle.fsb_timely.specs.Wants.{free_id, owed}

-- the symmetric agent that wins the bus at q
unfoldable pub agent_at : Trace → ℕ → Option ℕ
agent_at w q = elim (winner_at w q) [ Some who ↦ elim who [ Symmetric a ↦ Some a | Priority ↦ None ] | None ↦ None ]

-- the claim of the request that begins at q: none where it is not a symmetric agent's
unfoldable pub claim_at : Trace → ℕ → Option Claim
claim_at w q =
    option_and_then (λ a. option_map (λ line. record { first = q; agent = a; line = line }) (line_of w q)) (agent_at w q)

-- the choice for the request that begins at q: there is one choice for each request, cancelled ones too
unfoldable pub choice_at : List Choice → Trace → ℕ → Choice
choice_at choices w q = option_map_or (λ choice. choice) (slice_get choices (count_where (line_at ADS w) q)) quiet_choice

-- a turn as a number: 0 to keep, 1 to retry, two more than the clocks for which it is put off
unfoldable pub number_of_turn : Turn → ℕ
number_of_turn Keep = 0
number_of_turn Retry = 1
number_of_turn (Defer later) = later + 2

-- the line lies in the bridge's window
unfoldable pub is_in_window : Option Window → ℕ → Bool
is_in_window None line = false
is_in_window (Some window) line = nat_le window.base (line * 32) && nat_lt (line * 32) (window.base + window.size)

-- the effective choice of the request that begins at q and has its snoop end at s, given the turns of the live requests
-- before it: its choice, with the turn that counts; its choice as it is where the request is not decoded
unfoldable pub effective_choice : Option Window → List Choice → Trace → List ℕ → ℕ → ℕ → Choice
effective_choice bridge choices w turns q s =
    elim (request_at w q) [
      | None ↦ choice_at choices w q
      | Some request ↦
          effective (choice_at choices w q) request (is_in_window bridge request.line) (is_pending w turns request.line s)
    ]

-- the number of the live request whose snoop end is s
unfoldable pub number_snooped_at : Trace → ℕ → Option ℕ
number_snooped_at w s = first_where (λ i. is_at (snoop_end_of w i) s) (live_count w)

-- live request j is Deferred, and live request i is the reply to it
unfoldable pub is_answered_by : Trace → List ℕ → ℕ → ℕ → Bool
is_answered_by w turns i j = is_settled_deferred w turns j && is_at (reply_number_of w j) i

-- the live request that live request i serves: itself, and for a reply the Deferred request that it answers
unfoldable pub served_number : Trace → List ℕ → ℕ → Option ℕ
served_number w turns i =
    elim (is_reply (live_request_of w i)) [ true ↦ first_where (is_answered_by w turns i) i | false ↦ Some i ]

-- the claim of live request i
unfoldable pub live_claim_of : Trace → ℕ → Option Claim
live_claim_of w i = option_and_then (claim_at w) (live_clock_of w i)

-- a line is got with this outcome, by its bytes
unfoldable pub is_got : Outcome → Bool
is_got Granted = true
is_got Handed = true
is_got Retried = false
is_got Deferred = false
is_got Written = false
is_got Replied = false
is_got Failed = false
is_got Upgraded = false

-- ownership of a line is got with this outcome, without data
unfoldable pub is_upgraded : Outcome → Bool
is_upgraded Granted = false
is_upgraded Handed = false
is_upgraded Retried = false
is_upgraded Deferred = false
is_upgraded Written = false
is_upgraded Replied = false
is_upgraded Failed = false
is_upgraded Upgraded = true

-- a request of this kind gives its line with this outcome, whatever was before: a read, a read and invalidate or an upgrade
-- that is Granted or Handed, and each reply
unfoldable pub makes_grant : Kind → Outcome → Bool
makes_grant Reply outcome = true
makes_grant Invalidate outcome = is_got outcome
makes_grant Read outcome = is_got outcome
makes_grant WriteBack outcome = false
makes_grant Upgrade outcome = is_got outcome

-- the upgrade of this claim has won: no data move, and its agent holds the line at its snoop end s
unfoldable pub wins_race : Past → ℕ → Outcome → Claim → Bool
wins_race p s outcome claim = is_upgraded outcome && holds_line p claim.agent claim.line s

-- the request that begins at q makes a grant at its snoop end s, where its outcome is this
unfoldable pub gives_line : Past → Trace → ℕ → ℕ → Outcome → Bool
gives_line p w q s outcome =
    is_some_and (request_at w q) (λ request. makes_grant request.kind outcome)
    || is_some_and (claim_at w q) (wins_race p s outcome)

-- the request is decoded, and makes its agent the owner of the line
unfoldable pub is_owner_request : Option Request → Bool
is_owner_request request = is_some_and request (λ r. is_owning r.kind)

-- HIT# or HITM# is at s
unfoldable pub is_shared_at : Trace → ℕ → Bool
is_shared_at w s = line_at HIT w s || line_at HITM w s

-- the request that begins at q gives the claim's line to the claim's agent
unfoldable pub grant_to : ℕ → Bool → Bool → Claim → Grant
grant_to q owns shared claim =
    record { first = q; agent = claim.agent; line = claim.line; owns = owns; shared = shared }

-- the grant by the request that begins at q and has its snoop end at s, where it serves live request j: the agent and
-- the line are those of j's claim, and j's kind says whether the agent owns the line
unfoldable pub grant_for : Trace → ℕ → ℕ → ℕ → Option Grant
grant_for w q s j =
    option_map (grant_to q (is_owner_request (live_request_of w j)) (is_shared_at w s)) (live_claim_of w j)

-- the effective turns of the snoop ends at the clocks of these moments, as numbers and in order: snoop ends come in the
-- order of the live requests, so these are the turns of the live requests, from the first on
unfoldable pub turns_in : List Moment → List ℕ
turns_in [] = []
turns_in (moment ∷ moments) =
    elim moment.snooped [ None ↦ turns_in moments | Some s ↦ number_of_turn s.turn ∷ turns_in moments ]

-- the grant that live request i makes at its snoop end s, if it makes one: q is its first clock, and p the past below s
unfoldable pub grant_of : Past → Trace → ℕ → ℕ → ℕ → Outcome → Option Grant
grant_of p w i q s outcome =
    elim (gives_line p w q s outcome) [
      | true ↦ option_and_then (grant_for w q s) (served_number w (turns_in p.moments) i)
      | false ↦ None
    ]

-- the snoop end s of live request i, whose first clock is q and whose effective turn is known
unfoldable pub snoop_end_with : Past → Trace → ℕ → ℕ → ℕ → Turn → SnoopEnd
snoop_end_with p w i q s turn =
    let outcome = settled_by w (number_of_turn turn) i s in
    record {
      first = q;
      claim = claim_at w q;
      kind = option_map (λ request. request.kind) (request_at w q);
      turn = turn;
      outcome = outcome;
      grant = grant_of p w i q s outcome;
    }

-- the snoop end s of live request i, whose first clock is q, under these choices, where p is the past below s
unfoldable pub snoop_end_for : Past → List Choice → Trace → ℕ → ℕ → ℕ → SnoopEnd
snoop_end_for p choices w s i q =
    snoop_end_with p w i q s (effective_choice p.plan.bridge choices w (turns_in p.moments) q s).turn

-- the snoop end s of live request i, if its first clock is there
unfoldable pub snoop_end_if_begun : Past → List Choice → Trace → ℕ → ℕ → Option SnoopEnd
snoop_end_if_begun p choices w s i = option_map (snoop_end_for p choices w s i) (live_clock_of w i)

-- the snoop end at s, if there is one, where p is the past below s
unfoldable pub snoop_at : Past → List Choice → Trace → ℕ → Option SnoopEnd
snoop_at p choices w s = option_and_then (snoop_end_if_begun p choices w s) (number_snooped_at w s)

-- the first clock of the request that AERR# at c cancels
unfoldable pub cancelled_at : Trace → ℕ → Option ℕ
cancelled_at w c =
    elim (nat_le 3 c && line_at AERR w c && line_at ADS w (c - 3)) [ true ↦ Some (c - 3) | false ↦ None ]

-- the first clock of the live request whose response is at c
unfoldable pub responded_at : Trace → ℕ → Option ℕ
responded_at w c =
    elim (responds_at w c) [ true ↦ live_clock_of w (count_where (responds_at w) c) | false ↦ None ]

-- the first clock of the live request whose response is at c, where that response is Retry
unfoldable pub retried_at : Trace → ℕ → Option ℕ
retried_at w c =
    elim (nat_eq (response_code_at w c) (response_code_of Retried)) [ true ↦ responded_at w c | false ↦ None ]

-- the first clocks of the live requests whose end is c, in order
unfoldable pub requests_ending_at : Trace → ℕ → List ℕ
requests_ending_at w c = filter_map (live_clock_of w) (all_where (λ i. is_at (end_of w i) c) (live_count w))

-- a claim that is made at c, with the ID of the want: the free one
unfoldable pub owing_for : Past → ℕ → Claim → Owing
owing_for p c claim = record { claim = claim; did = free_id claim.agent (owed p claim.agent c) }

-- the request of a symmetric agent that begins at c
unfoldable pub begun_with : Past → Trace → ℕ → Option Owing
begun_with p w c = elim (line_at ADS w c) [ true ↦ option_map (owing_for p c) (claim_at w c) | false ↦ None ]

-- the request of a symmetric agent that begins at q, which is c or a clock of the past below c
unfoldable pub owing_at : Past → Trace → ℕ → ℕ → Option Owing
owing_at p w c q =
    elim (nat_eq q c) [
      | true ↦ begun_with p w c
      | false ↦ option_and_then (λ moment. moment.begun) (slice_get p.moments q)
    ]

-- the first clock of the snoop end is q
unfoldable pub is_snoop_of : ℕ → SnoopEnd → Bool
is_snoop_of q s = nat_eq s.first q

-- the request that begins at q has its snoop end in one of these moments
unfoldable pub is_snooped_in : List Moment → ℕ → Bool
is_snooped_in moments q = list_any (λ moment. is_some_and moment.snooped (is_snoop_of q)) moments

-- the request that begins at q has no snoop end in the past, and not this one
unfoldable pub is_unsnooped : Past → Option SnoopEnd → ℕ → Bool
is_unsnooped p snooped q = not (is_snooped_in p.moments q) && not (is_some_and snooped (is_snoop_of q))

-- the moment of clock c, where w has the samples up to c and no more, and p is the past below c
unfoldable pub moment_at : Past → List Choice → Trace → ℕ → Moment
moment_at p choices w c =
    let snooped = snoop_at p choices w c in
    record {
      begun = begun_with p w c;
      cancelled = cancelled_at w c;
      snooped = snooped;
      responded = responded_at w c;
      retried = retried_at w c;
      ended = requests_ending_at w c;
      outstanding = filter_map (owing_at p w c) (outstanding w (c + 1));
      unsnooped = filter_map (claim_at w) (filter (is_unsnooped p snooped) (in_flight w (c + 1)));
    }
