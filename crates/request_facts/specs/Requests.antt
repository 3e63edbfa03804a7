-- Requests as objects. Each has every member, and null where there is nothing to say.
use Rattle.std.specs.Prelude.{ℕ, ◌+◌, ◌*◌, ◌^◌, nat_lt, Bool, if◌then◌else◌, List, map, Option, Some, None, codes}
use Rattle.serde_json.specs.Data.{Data, null, array, object, string, Members, no_members, put}
use Rattle.serde_json.specs.View.{items_of}
use Rattle.fsb_encode.specs.declared.request.Kind.{Kind}
use Rattle.fsb_encode.specs.declared.request.Kind.TheVariants as kinds
use Rattle.fsb_encode.specs.declared.request.Request.{Request}
use Rattle.fsb_owner_table.specs.declared.row.Row.{Row}
use Rattle.fsb_owner_table.specs.declared.row.Snooped.{Snooped}
use Rattle.fsb_recent.specs.declared.recent.Around.{Around}
use Rattle.fsb_trace.specs.declared.outcome.Outcome.{Outcome}
use Rattle.fsb_trace.specs.declared.outcome.Outcome.TheVariants as outcomes
use Rattle.fsb_trace.specs.declared.seen.Seen.{Seen}
use Rattle.reason_facts.specs.Values.{count, maybe_agent, with_count, with_flag}

-- with a clock that comes behind so many others, or null
unfoldable pub with_clock : List ℕ → ℕ → Option ℕ → Members → Members
with_clock name before None ms = put name null ms
with_clock name before (Some clock) ms = with_count name (before + clock) ms

-- the word for a kind
abbrev pub kind_word : Kind → List ℕ
kind_word kinds.Reply = codes "reply"
kind_word kinds.Invalidate = codes "invalidate"
kind_word kinds.Read = codes "read"
kind_word kinds.WriteBack = codes "writeback"
kind_word kinds.Upgrade = codes "upgrade"

-- an address, or null where it has more than 64 bits
abbrev pub address_in : ℕ → Data
address_in address = if nat_lt address (2 ^ 64) then count address else null

-- the address of the line that a request of this kind names; a reply names none
abbrev pub address_by : Kind → ℕ → Data
address_by kinds.Reply line = null
address_by kinds.Invalidate line = address_in (line * 32)
address_by kinds.Read line = address_in (line * 32)
address_by kinds.WriteBack line = address_in (line * 32)
address_by kinds.Upgrade line = address_in (line * 32)

-- the same of a request
unfoldable pub address_of : Request → Data
address_of r = address_by r.kind r.line

-- with what a request asks for, where it is decoded: its kind, its address, and its deferred ID
unfoldable pub with_target : Option Request → Members → Members
with_target None ms = put (codes "id") null (put (codes "address") null (put (codes "kind") null ms))
with_target (Some r) ms =
    with_count (codes "id") r.did
    (put (codes "address") (address_of r) (put (codes "kind") (string (kind_word r.kind)) ms))

-- with a snoop end and the lines there, or null
unfoldable pub with_snoop_end : ℕ → Option Snooped → Members → Members
with_snoop_end before None ms =
    put (codes "defer") null (put (codes "hitm") null (put (codes "hit") null (put (codes "snoop_end") null ms)))
with_snoop_end before (Some s) ms =
    with_flag (codes "defer") s.defer (with_flag (codes "hitm") s.hitm (with_flag (codes "hit") s.hit
    (with_clock (codes "snoop_end") before (Some s.clock) ms)))

-- the word for an outcome
abbrev pub outcome_word : Outcome → List ℕ
outcome_word outcomes.Granted = codes "granted"
outcome_word outcomes.Handed = codes "handed"
outcome_word outcomes.Retried = codes "retried"
outcome_word outcomes.Deferred = codes "deferred"
outcome_word outcomes.Written = codes "written"
outcome_word outcomes.Replied = codes "replied"
outcome_word outcomes.Failed = codes "failed"
outcome_word outcomes.Upgraded = codes "upgraded"

-- with the outcome that the response tells, and "aerr" where AERR# cancelled the request
unfoldable pub with_outcome : Bool → Option Outcome → Members → Members
with_outcome is_cancelled (Some outcome) ms = put (codes "outcome") (string (outcome_word outcome)) ms
with_outcome is_cancelled None ms =
    if is_cancelled then put (codes "outcome") (string (codes "aerr")) ms else put (codes "outcome") null ms

-- with what is seen of a request: its first clock, its agent, and what it asks for
unfoldable pub with_seen : ℕ → Seen → Members → Members
with_seen before seen ms =
    with_target seen.request
    (put (codes "agent") (maybe_agent seen.who) (with_clock (codes "first_clock") before (Some seen.clock) ms))

-- with what is reached of it: its snoop end, its response and what that tells, its end, and the reply to it
unfoldable pub with_course : ℕ → Row → Members → Members
with_course before row ms =
    with_clock (codes "reply") before row.reply (with_clock (codes "end") before row.end
    (with_outcome row.seen.cancelled row.outcome (with_clock (codes "response") before row.response
    (with_snoop_end before row.snoop ms))))

-- a request, whose clocks come behind so many others
abbrev pub request_data : ℕ → Row → Data
request_data before row = object (with_course before row (with_seen before row.seen no_members))

-- requests, in order
abbrev pub requests_data : ℕ → List Row → Data
requests_data before rows = array (items_of (map (request_data before) rows))

-- with the requests around a clock: the last that were over before it, and those in flight
abbrev pub with_requests : ℕ → Around → Members → Members
with_requests before around ms =
    put (codes "requests_in_flight") (requests_data before around.flight.items)
    (put (codes "requests_over") (requests_data before around.past.items) ms)
