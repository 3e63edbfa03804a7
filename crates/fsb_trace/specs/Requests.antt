-- The requests of a trace. A request is known by its first clock, a clock with ADS#.
use Rattle.std.specs.Prelude.{ℕ, ◌+◌, ◌/◌, Bool, true, false, ◌&&◌, not, nat_eq, List, map, Option, Some, None, length, slice_get}
use Rattle.std.specs.Option.{option_map, option_and_then}
use Rattle.fsb_count.specs.Options.{is_some_and}
use Rattle.fsb_count.specs.Clocks.{count_where, all_where, nth_where}
use Rattle.fsb_signal.specs.declared.lines.TheConstants.Lines.{ADS, AERR}
use Rattle.fsb_signal.specs.Samples.{line_at}
use Rattle.fsb_encode.specs.declared.request.Kind.{Kind}
use Rattle.fsb_encode.specs.declared.request.Kind.TheVariants.{Reply, Invalidate, Read, WriteBack, Upgrade}
use Rattle.fsb_encode.specs.declared.request.Request.{Request}
use Rattle.fsb_trace.specs.declared.seen.Seen.{Seen}
use Rattle.fsb_trace.specs.declared.who.Who.TheVariants.{Symmetric, Priority}
use Rattle.fsb_trace.specs.At.{Trace, request_at}
use Rattle.fsb_trace.specs.Winner.{winner_at}

-- the request that begins at q is cancelled: AERR# stands three clocks after q
unfoldable pub is_cancelled : Trace → ℕ → Bool
is_cancelled w q = line_at AERR w (q + 3)

-- the request that begins at q, as a trace shows it
unfoldable pub seen_at : Trace → ℕ → Seen
seen_at w q = record { clock = q; who = winner_at w q; request = request_at w q; cancelled = is_cancelled w q }

-- the requests of the trace, in order
unfoldable pub requests_of : Trace → List Seen
requests_of w = map (seen_at w) (all_where (line_at ADS w) (length w))

-- the first clock of request k, from 0
unfoldable pub first_clock_of : Trace → ℕ → Option ℕ
first_clock_of w k = nth_where (line_at ADS w) k (length w)

-- a live request begins at q
unfoldable pub is_live : Trace → ℕ → Bool
is_live w q = line_at ADS w q && not (is_cancelled w q)

-- how many requests are live
unfoldable pub live_count : Trace → ℕ
live_count w = count_where (is_live w) (length w)

-- the first clock of live request i, from 0
unfoldable pub live_clock_of : Trace → ℕ → Option ℕ
live_clock_of w i = nth_where (is_live w) i (length w)

-- the number, among the live requests, of the live request that begins at q
unfoldable pub live_number_of : Trace → ℕ → ℕ
live_number_of w q = count_where (is_live w) q

-- live request i, where it is decoded
unfoldable pub live_request_of : Trace → ℕ → Option Request
live_request_of w i = option_and_then (request_at w) (live_clock_of w i)

-- the kind is that of a reply
unfoldable pub is_reply_kind : Kind → Bool
is_reply_kind Reply = true
is_reply_kind Invalidate = false
is_reply_kind Read = false
is_reply_kind WriteBack = false
is_reply_kind Upgrade = false

-- the kind is that of a write-back
unfoldable pub is_write_back_kind : Kind → Bool
is_write_back_kind Reply = false
is_write_back_kind Invalidate = false
is_write_back_kind Read = false
is_write_back_kind WriteBack = true
is_write_back_kind Upgrade = false

-- the kind is that of an upgrade
unfoldable pub is_upgrade_kind : Kind → Bool
is_upgrade_kind Reply = false
is_upgrade_kind Invalidate = false
is_upgrade_kind Read = false
is_upgrade_kind WriteBack = false
is_upgrade_kind Upgrade = true

-- the request is decoded, and it is a reply
unfoldable pub is_reply : Option Request → Bool
is_reply request = is_some_and request (λ r. is_reply_kind r.kind)

-- the request is decoded, and it is a write-back
unfoldable pub is_write_back : Option Request → Bool
is_write_back request = is_some_and request (λ r. is_write_back_kind r.kind)

-- the request is decoded, and it is an upgrade
unfoldable pub is_upgrade : Option Request → Bool
is_upgrade request = is_some_and request (λ r. is_upgrade_kind r.kind)

-- both requests are decoded, and they have the same ID
unfoldable pub have_same_id : Option Request → Option Request → Bool
have_same_id a b = is_some_and a (λ r. is_some_and b (λ s. nat_eq r.did s.did))

-- the line that a symmetric agent's request at q names: its address word divided by 4, which is known at q itself
unfoldable pub line_of : Trace → ℕ → Option ℕ
line_of w q =
    elim (winner_at w q) [
      | Some who ↦ elim who [ Symmetric a ↦ option_map (λ s. s.addr.bits / 4) (slice_get w q) | Priority ↦ None ]
      | None ↦ None
    ]
