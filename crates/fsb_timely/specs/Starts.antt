-- Which requests begin, and who asks for the bus.
use Rattle.std.specs.Prelude.{ℕ, ◌-◌, ◌&&◌, Bool, true, false, not, nat_lt, nat_le, length, Option, Some, is_some}
use Rattle.std.specs.Bool.{beq}
use Rattle.std.specs.Option.{option_map, option_and_then}
use Rattle.fsb_count.specs.Clocks.{each_where}
use Rattle.fsb_count.specs.Options.{is_some_and}
use Rattle.fsb_signal.specs.declared.lines.TheConstants.Lines.{ADS, BNR, BPRI}
use Rattle.fsb_signal.specs.Samples.{line_at}
use Rattle.fsb_encode.specs.declared.request.Kind.TheVariants.{Reply}
use Rattle.fsb_encode.specs.declared.request.Pair.{Pair}
use Rattle.fsb_encode.specs.declared.request.Request.{Request}
use Rattle.fsb_encode.specs.Decoded.{is_pair}
use Rattle.fsb_encode.specs.Request.{pairs_of}
use Rattle.fsb_trace.specs.declared.who.Who.{Who}
use Rattle.fsb_trace.specs.declared.who.Who.TheVariants.{Symmetric, Priority}
use Rattle.fsb_trace.specs.At.{line_back, known_pair_at, request_at}
use Rattle.fsb_trace.specs.Deferral.{due_at}
use Rattle.fsb_trace.specs.Flight.{in_flight}
use Rattle.fsb_trace.specs.Requests.{is_reply, live_request_of}
use Rattle.fsb_trace.specs.Winner.{winner_at, begins_at, bus_request_of}
use Rattle.fsb_timely.specs.Past.{Past}
use Rattle.fsb_timely.specs.Wants.{want_of, is_held_back}
use Rattle.fsb_timely.specs.Moments.{turns_in}
use Rattle.fsb_timely.specs.Runs.{Run, run_to, past_to}

-- the reply to a Deferred request
unfoldable pub reply_to : Request → Request
reply_to request = record { kind = Reply; line = 0; chunk = 0; did = request.did; den = false }

-- the least live request that is due at c
unfoldable pub due_number : Run → Past → ℕ → Option ℕ
due_number r p c = due_at r.trace (turns_in p.moments) c

-- what an agent would begin at c: a symmetric agent its want, the priority agent the reply to the least due request
unfoldable pub would_begin : Run → Past → ℕ → Who → Option Request
would_begin r p c (Symmetric a) = want_of p a c
would_begin r p c Priority = option_map reply_to (option_and_then (live_request_of r.trace) (due_number r p c))

-- an agent is held back at c; the priority agent never is
unfoldable pub is_kept_back : Past → ℕ → Who → Bool
is_kept_back p c (Symmetric a) = is_held_back p a c
is_kept_back p c Priority = false

-- no request began one or two clocks before c
unfoldable pub is_spaced : Run → ℕ → Bool
is_spaced r c = not (line_back ADS r.trace c 1) && not (line_back ADS r.trace c 2)

-- fewer than eight requests are in flight at c
unfoldable pub has_room : Run → ℕ → Bool
has_room r c = nat_lt (length (in_flight r.trace c)) 8

-- the winner at c is an agent that is not held back
unfoldable pub has_free_winner : Run → Past → ℕ → Bool
has_free_winner r p c = is_some_and (winner_at r.trace c) (λ who. not (is_kept_back p c who))

-- a request may begin at c: the requests before are far enough, fewer than eight are in flight, BNR# was not two clocks
-- before, and the winner is not held back
unfoldable pub may_begin : Run → Past → ℕ → Bool
may_begin r p c = is_spaced r c && has_room r c && not (line_back BNR r.trace c 2) && has_free_winner r p c

-- the request that the winner at c would begin
unfoldable pub request_begun : Run → Past → ℕ → Option Request
request_begun r p c = option_and_then (would_begin r p c) (winner_at r.trace c)

-- no address and REQ bits
unfoldable pub no_pair : Pair
no_pair = record { addr = 0; req = 0 }

-- the request that the winner at the clock before c would begin there
unfoldable pub request_begun_before : Run → Past → ℕ → Option Request
request_begun_before r p c = request_begun (run_to r (c - 1)) (past_to p (c - 1)) (c - 1)

-- the address and REQ words that c is to have: the first pair of the request that begins at c, the second pair of the one
-- that began at the clock before, and otherwise no bits
unfoldable pub pair_due : Run → Past → ℕ → Option Pair
pair_due r p c =
    elim (line_at ADS r.trace c) [
      | true ↦ option_map (λ request. (pairs_of request).0) (request_begun r p c)
      | false ↦ elim (line_back ADS r.trace c 1) [
        | true ↦ option_map (λ request. (pairs_of request).1) (request_begun_before r p c)
        | false ↦ Some no_pair
      ]
    ]

-- ADS# is at c exactly where a request may begin
unfoldable pub drives_ads : Run → Past → ℕ → Bool
drives_ads r p c = beq (line_at ADS r.trace c) (may_begin r p c)

-- the address and REQ words at c are those that it is to have
unfoldable pub drives_pair : Run → Past → ℕ → Bool
drives_pair r p c = is_some_and (pair_due r p c) (λ due. is_some_and (known_pair_at r.trace c) (is_pair due))

-- Request starts: ADS# is at c exactly where a request may begin, and the words at c are those that it is to have.
unfoldable pub starts_requests : Run → Past → ℕ → Bool
starts_requests r p c = drives_ads r p c && drives_pair r p c

-- the agent began a request at the clock before c
unfoldable pub began_before : Run → ℕ → Who → Bool
began_before r c who = nat_le 1 c && begins_at r.trace (c - 1) who

-- a reply began at the clock before c
unfoldable pub reply_before : Run → ℕ → Bool
reply_before r c = line_back ADS r.trace c 1 && is_reply (request_at r.trace (c - 1))

-- BREQ# of agent a is at c exactly where a has a want and began no request at the clock before
unfoldable pub asks_for_bus : Run → Past → ℕ → ℕ → Bool
asks_for_bus r p c a =
    beq (line_at (bus_request_of a) r.trace c) (is_some (want_of p a c) && not (began_before r c (Symmetric a)))

-- BPRI# is at c exactly where a request is due and no reply began at the clock before
unfoldable pub asks_for_priority : Run → Past → ℕ → Bool
asks_for_priority r p c = beq (line_at BPRI r.trace c) (is_some (due_number r p c) && not (reply_before r c))

-- Request lines: BREQ# of each agent and BPRI# are as they must.
unfoldable pub drives_request_lines : Run → Past → ℕ → Bool
drives_request_lines r p c = each_where (asks_for_bus r p c) 4 && asks_for_priority r p c
