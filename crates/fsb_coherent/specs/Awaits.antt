-- Whose end is awaited after a snoop end, and on which line.
use Rattle.std.specs.Prelude.{ℕ, ◌+◌, ◌&&◌, Bool, true, false, not, nat_eq, if◌then◌else◌, Option, Some, None, slice_get}
use Rattle.std.specs.Option.{option_map, option_and_then}
use Rattle.fsb_count.specs.Clocks.{first_where}
use Rattle.fsb_count.specs.Options.{is_some_and}
use Rattle.fsb_encode.specs.declared.request.Kind.{Kind}
use Rattle.fsb_encode.specs.declared.request.Kind.TheVariants as kinds
use Rattle.fsb_line.specs.declared.purpose.Purpose.{Purpose}
use Rattle.fsb_line.specs.declared.purpose.Purpose.TheVariants as purposes
use Rattle.fsb_trace.specs.declared.outcome.Outcome.{Outcome}
use Rattle.fsb_trace.specs.declared.outcome.Outcome.TheVariants.{Granted, Handed, Retried, Deferred, Written, Replied, Failed, Upgraded}
use Rattle.fsb_timely.specs.Past.{Claim, Grant, SnoopEnd, Past}
use Rattle.fsb_timely.specs.Grants.{snooped_at}
use Rattle.fsb_timely.specs.Hits.{is_dirty}
use Rattle.fsb_timely.specs.Moments.{is_snoop_of, is_upgraded}
use Rattle.fsb_timely.specs.Wants.{want_of}

-- what a request of this kind asks of its line; a reply asks nothing of its own
unfoldable pub purpose_of : Kind → Option Purpose
purpose_of kinds.Reply = None
purpose_of kinds.Invalidate = Some purposes.Own
purpose_of kinds.Read = Some purposes.Read
purpose_of kinds.WriteBack = Some purposes.WriteBack
purpose_of kinds.Upgrade = Some purposes.Upgrade

-- what agent a wants of a line at c, by its want there
unfoldable pub purpose_wanted : Past → ℕ → ℕ → Option Purpose
purpose_wanted p a c = option_and_then (λ request. purpose_of request.kind) (want_of p a c)

-- the line is written back with this outcome
unfoldable pub is_written : Outcome → Bool
is_written Granted = false
is_written Handed = false
is_written Retried = false
is_written Deferred = false
is_written Written = true
is_written Replied = false
is_written Failed = false
is_written Upgraded = false

-- whose end is awaited after a snoop end: an agent, a line, and whether data move
pub record Awaited : Type 0 where
  pub agent : ℕ
  pub line : ℕ
  pub carries : Bool

-- the end that a write-back with this claim awaits
unfoldable pub awaited_by_claim : Claim → Awaited
awaited_by_claim claim = record { agent = claim.agent; line = claim.line; carries = true }

-- the end that is awaited after a snoop end with this outcome and this grant: data move, unless an upgrade has won
unfoldable pub awaited_by_grant : Outcome → Grant → Awaited
awaited_by_grant outcome grant =
    record { agent = grant.agent; line = grant.line; carries = not (is_upgraded outcome) }

-- the end that is awaited after this snoop end: by its grant, otherwise by a write-back; after any other, none
unfoldable pub awaited_by : SnoopEnd → Option Awaited
awaited_by s =
    elim s.grant [
      | Some grant ↦ Some (awaited_by_grant s.outcome grant)
      | None ↦ if is_written s.outcome then option_map awaited_by_claim s.claim else None
    ]

-- the snoop end, below n, of the live request that begins at q
unfoldable pub snoop_end_below : Past → ℕ → ℕ → Option SnoopEnd
snoop_end_below p n q =
    option_and_then (snooped_at p) (first_where (λ t. is_some_and (snooped_at p t) (is_snoop_of q)) n)

-- the end that the live request that begins at q awaits, where its snoop end is at c or below
unfoldable pub awaited_at : Past → ℕ → ℕ → Option Awaited
awaited_at p c q = option_and_then awaited_by (snoop_end_below p (c + 1) q)

-- the first agent but a that is dirty on the line at c: the one that hands it over
unfoldable pub owner_at : Past → ℕ → ℕ → ℕ → Option ℕ
owner_at p a line c = first_where (λ b. not (nat_eq b a) && is_dirty p b line c) 4

-- the first clock of the live request whose response is at c
unfoldable pub responded_in : Past → ℕ → Option ℕ
responded_in p c = option_and_then (λ moment. moment.responded) (slice_get p.moments c)

-- the first clock of the request that is cancelled at c
unfoldable pub cancelled_in : Past → ℕ → Option ℕ
cancelled_in p c = option_and_then (λ moment. moment.cancelled) (slice_get p.moments c)
